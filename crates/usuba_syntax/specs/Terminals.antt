-- The tokens that the rules of the grammar name.
use Rattle.std.specs.Prelude.{ℕ, ◌^◌, List, Some, None}
use Rattle.tor_edge.specs.declared.place.Place.{Place}
use Rattle.usuba_tokens.specs.declared.token.Keyword.{Keyword}
use Rattle.usuba_tokens.specs.declared.token.Sign.{Sign}
use Rattle.usuba_tokens.specs.declared.token.Token.{Token}
use Rattle.usuba_tokens.specs.declared.token.TokenKind.TheVariants as kind
use Rattle.usuba_tokens.specs.declared.token.TypeWord.{TypeWord}
use Rattle.usuba_trees.specs.Made.{name}
use Rattle.usuba_trees.specs.declared.Word.{Word}

-- a sign that stands at a place
abbrev pub sign : Sign → Place → Token
sign s at = record { kind = kind.Sign s; place = at }

-- a reserved word that stands at a place
abbrev pub keyword : Keyword → Place → Token
keyword k at = record { kind = kind.Keyword k; place = at }

-- the word `in` at a place
abbrev pub in_word : List ℕ → Place → Token
in_word text at = record { kind = kind.In text; place = at }

-- a type word at a place
abbrev pub type_word : TypeWord → Place → Token
type_word word at = record { kind = kind.TypeWord word; place = at }

-- NAME: any word that is not reserved, `in` and the type words too
pub data IsName : Token → Word → Type 0 where
  word : {text : List ℕ} {at : Place} → IsName (record { kind = kind.Word text; place = at }) (name text at)
  in_as_name : {text : List ℕ} {at : Place} → IsName (in_word text at) (name text at)
  type_word_as_name : {word : TypeWord} {at : Place} → IsName (type_word word at) (name word.text at)

-- NUMBER. One of 2^64 or more is a fault of its own: it is set aside here, and stands for 2^64.
pub data IsNumber : Token → ℕ → Type 0 where
  number : {n : ℕ} {at : Place} → IsNumber (record { kind = kind.Number (Some n); place = at }) n
  too_big : {at : Place} → IsNumber (record { kind = kind.Number None; place = at }) (2 ^ 64)
