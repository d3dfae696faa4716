-- Tokens that a text spells say types that are so.
use Rattle.std.proofs.Common.{ℕ, List, [], ◌∷◌, take}
use Rattle.tor_edge.specs.declared.place.Place.{Place}
use Rattle.usuba_tokens.specs.Heads.{kind_of}
use Rattle.usuba_tokens.specs.Tokens.{Spells, ended, broken, gap, token}
use Rattle.usuba_tokens.specs.declared.head.Form.{Form}
use Rattle.usuba_tokens.specs.declared.head.Form.TheVariants as form
use Rattle.usuba_tokens.specs.declared.token.Ending.{Ending}
use Rattle.usuba_tokens.specs.declared.token.Token.{Token}
use Rattle.source_shapes.proofs.Words.{IsShapedKind, word_is_shaped}

-- each of these tokens that says a type says one that is so
abbrev pub AreShaped : List Token → Type 0
AreShaped [] = Unit {0}
AreShaped (t ∷ tokens) = IsShapedKind t.kind × AreShaped tokens

kind_is_shaped : (f : Form) (text : List ℕ) → IsShapedKind (kind_of f text)
kind_is_shaped form.Word text = word_is_shaped text
kind_is_shaped form.Number text = tt
kind_is_shaped (form.Sign s) text = tt

-- what a text spells is so
pub spelled_are_shaped : {at : Place} {text : List ℕ} {tokens : List Token} {end : Ending} → Spells at text tokens end → AreShaped tokens
spelled_are_shaped (ended at text is) = tt
spelled_are_shaped (broken at text is) = tt
spelled_are_shaped (gap at text n tokens end is more) = spelled_are_shaped more
spelled_are_shaped (token at text n f tokens end is more) = (kind_is_shaped f (take n text), spelled_are_shaped more)
