-- The statement of the law that a judged file has an outcome, over every kind of element.
use Rattle.std.specs.Prelude.{◌≡◌, ℕ, ◌<◌, List, length, reverse, Option, Some, slice_get}
use Rattle.usuba_trees.specs.declared.Def.{Def}
use Rattle.usuba_trees.specs.declared.File.{File}
use Rattle.usuba_model.specs.Judging.{IsJudged, name_at}
use Rattle.usuba_model.specs.Rounds.{Operators, outcomes}
use Rattle.usuba_model.specs.Walk.{signature}

-- the entry of a judged file makes elements for its inputs to as many elements as it has outputs
abbrev pub JudgedHasOutcome : Type 0 → Type 0
JudgedHasOutcome V = (operators : Operators V) (asked_width : Option ℕ) (asked_entry : Option (List ℕ)) (file : File) (width entry : ℕ)
    → IsJudged asked_width asked_entry file width entry → 0 < width
    → (d : Def) → slice_get file.defs entry ≡ Some d → (elements : List V) → length elements ≡ (signature d).inputs
    → (made : List V) × (outcomes operators (reverse file.defs) (name_at file.defs entry) elements ≡ Some made)
    × (length made ≡ (signature d).outputs)
