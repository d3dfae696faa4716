-- The statement of the law that the text of a masked form spells it.
use Rattle.std.specs.Prelude.{◌≡◌, ℕ, ◌≤◌, List}
use Rattle.tor_edge.specs.declared.place.Place.{Place}
use Rattle.c_tree.specs.declared.CFile.{CFile}
use Rattle.usuba0.specs.Circuit.{Circuit, IsCore}
use Rattle.c_form.specs.MaskedForm.{IsMaskedForm}
use Rattle.c_text.specs.CText.{c_text}
use Rattle.c_syntax.specs.Syntax.{IsSyntaxFault}
use Rattle.c_meaning.specs.CSubset.{Spells, IsBadName}

-- the bytes spell this file and no other, and nothing of them is at fault
pub record SpellsAlone (bytes : List ℕ) (file : CFile) : Type 0 where
  pub spells : Spells bytes file
  pub alone : (other : CFile) → Spells bytes other → other ≡ file
  pub syntax : (place : Place) → ¬ IsSyntaxFault bytes place
  pub names : (place : Place) → ¬ IsBadName bytes place

-- the text of the masked form of a core for words of at most 64 bits, within the bounds of the C subset, spells that
-- form and no other
abbrev pub MaskedTextSpells : Type 0
MaskedTextSpells =
    (core : Circuit) → IsCore core → (B : ℕ) → B ≤ 64 → (form : CFile) → IsMaskedForm core B form
    → form.outputs ≤ 32768 → form.inputs ≤ 32768 → form.slots ≤ 131072 → SpellsAlone (c_text form) form
