-- The tokens that the rules of the C subset name.
use Rattle.std.specs.Prelude.{ℕ, List}
use Rattle.tor_edge.specs.declared.place.Place.{Place}
use Rattle.c_tokens.specs.declared.token.Keyword.{Keyword}
use Rattle.c_tokens.specs.declared.token.Sign.{Sign}
use Rattle.c_tokens.specs.declared.token.Token.{Token}
use Rattle.c_tokens.specs.declared.token.TokenKind.TheVariants as kind

-- a sign that stands at a place
abbrev pub sign : Sign → Place → Token
sign s at = record { kind = kind.Sign s; place = at }

-- a reserved word that stands at a place
abbrev pub keyword : Keyword → Place → Token
keyword k at = record { kind = kind.Keyword k; place = at }

-- NAME
abbrev pub name : List ℕ → Place → Token
name text at = record { kind = kind.Name text; place = at }

-- NUMBER
abbrev pub number : ℕ → Place → Token
number n at = record { kind = kind.Number n; place = at }
