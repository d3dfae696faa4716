-- The places of the names among tokens.
use Rattle.std.specs.Prelude.{List, [], ◌∷◌}
use Rattle.tor_edge.specs.declared.place.Place.{Place}
use Rattle.c_tokens.specs.declared.token.Token.{Token}
use Rattle.c_tokens.specs.declared.token.TokenKind.{TokenKind}
use Rattle.c_tokens.specs.declared.token.TokenKind.TheVariants as kind

-- a place, if a name stands there, and others
abbrev pub with_name_at : TokenKind → Place → List Place → List Place
with_name_at (kind.Name text) at places = at ∷ places
with_name_at _ at places = places

-- the places of the names, in text order
abbrev pub names_at : List Token → List Place
names_at [] = []
names_at (token ∷ tokens) = with_name_at token.kind token.place (names_at tokens)
