-- Which tokens a text spells, each with the place where it begins.
use Rattle.std.specs.Prelude.{◌≡◌, ℕ, List, [], ◌∷◌, take, drop}
use Rattle.tor_edge.specs.declared.place.Place.{Place}
use Rattle.usuba_tokens.specs.Tokens.{place_after}
use Rattle.c_tokens.specs.Heads.{head_of, kind_of}
use Rattle.c_tokens.specs.declared.head.Form.{Form}
use Rattle.c_tokens.specs.declared.head.Head.TheVariants as head
use Rattle.c_tokens.specs.declared.token.Ending.{Ending}
use Rattle.c_tokens.specs.declared.token.Ending.TheVariants as ending
use Rattle.c_tokens.specs.declared.token.Token.{Token}

-- `Spells at text tokens ending`: a text that begins at this place spells these tokens, and ends so.
pub data Spells : Place → List ℕ → List Token → Ending → Type 0 where
  -- nothing is left
  ended : (at : Place) (text : List ℕ) → head_of text ≡ head.End → Spells at text [] (ending.End at)
  -- no token begins here
  broken : (at : Place) (text : List ℕ) → head_of text ≡ head.Broken → Spells at text [] (ending.Broken at)
  -- a blank, and then what the rest spells
  blank : (at : Place) (text : List ℕ) (tokens : List Token) (end : Ending) → head_of text ≡ head.Blank
      → Spells (place_after at (take 1 text)) (drop 1 text) tokens end → Spells at text tokens end
  -- a token of n bytes, and then what the rest spells
  token : (at : Place) (text : List ℕ) (n : ℕ) (form : Form) (tokens : List Token) (end : Ending)
      → head_of text ≡ head.Found form n → Spells (place_after at (take n text)) (drop n text) tokens end
      → Spells at text (record { kind = kind_of form (take n text); place = at } ∷ tokens) end
