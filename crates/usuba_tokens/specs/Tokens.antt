-- Which tokens a text spells, each with the place where it begins.
use Rattle.std.specs.Prelude.{◌≡◌, ℕ, ◌+◌, ◌==◌, if◌then◌else◌, List, [], ◌∷◌, take, drop, fold}
use Rattle.tor_edge.specs.declared.place.Place.{Place}
use Rattle.usuba_tokens.specs.Heads.{head_of, kind_of}
use Rattle.usuba_tokens.specs.declared.head.Form.{Form}
use Rattle.usuba_tokens.specs.declared.head.Head.TheVariants as head
use Rattle.usuba_tokens.specs.declared.token.Ending.{Ending}
use Rattle.usuba_tokens.specs.declared.token.Ending.TheVariants as ending
use Rattle.usuba_tokens.specs.declared.token.Token.{Token}

-- where a text begins
abbrev pub start : Place
start = record { line = 1; column = 1 }

-- the place after a byte: a LF ends its line, and any other byte is one column
abbrev pub next_place : Place → ℕ → Place
next_place at b =
    if b == 10 then record { line = at.line + 1; column = 1 } else record { line = at.line; column = at.column + 1 }

-- the place after some bytes
abbrev pub place_after : Place → List ℕ → Place
place_after at bytes = fold next_place at bytes

-- `Spells at text tokens ending`: a text that begins at this place spells these tokens, and ends so.
pub data Spells : Place → List ℕ → List Token → Ending → Type 0 where
  -- nothing is left
  ended : (at : Place) (text : List ℕ) → head_of text ≡ head.End → Spells at text [] (ending.End at)
  -- no token begins here, or a comment that is never closed
  broken : (at : Place) (text : List ℕ) → head_of text ≡ head.Broken → Spells at text [] (ending.Broken at)
  -- a blank or a comment of n bytes, and then what the rest spells
  gap : (at : Place) (text : List ℕ) (n : ℕ) (tokens : List Token) (end : Ending) → head_of text ≡ head.Gap n → Spells (place_after at (take n text)) (drop n text) tokens end → Spells at text tokens end
  -- a token of n bytes, and then what the rest spells
  token : (at : Place) (text : List ℕ) (n : ℕ) (form : Form) (tokens : List Token) (end : Ending) → head_of text ≡ head.Found form n → Spells (place_after at (take n text)) (drop n text) tokens end → Spells at text (record { kind = kind_of form (take n text); place = at } ∷ tokens) end
