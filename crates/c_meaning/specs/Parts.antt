-- What contracts of private functions cite.
use Rattle.std.specs.Prelude.{Bool, true, false}
use Rattle.c_tokens.specs.declared.token.TokenKind.{TokenKind}
use Rattle.c_tokens.specs.declared.token.TokenKind.TheVariants as kind

-- the token is a name
abbrev pub is_name : TokenKind → Bool
is_name (kind.Name text) = true
is_name _ = false
