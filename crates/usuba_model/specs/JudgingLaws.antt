-- The statements of the laws about judging.
use Rattle.std.specs.Prelude.{◌≡◌, ◌⊎◌, ℕ, List, Option, Some}
use Rattle.usuba_trees.specs.declared.File.{File}
use Rattle.usuba_model.specs.declared.fault.Fault.{Fault}
use Rattle.usuba_model.specs.Judging.{fault_of, IsJudged}

-- the file is judged, for some width and entry
abbrev pub HasPassed : Option ℕ → Option (List ℕ) → File → Type 0
HasPassed asked_width asked_entry file = (width : ℕ) × (entry : ℕ) × IsJudged asked_width asked_entry file width entry

-- each file has a first fault or is judged
abbrev pub JudgedOrFaulty : Type 0
JudgedOrFaulty = (asked_width : Option ℕ) (asked_entry : Option (List ℕ)) (file : File)
    → ((fault : Fault) × (fault_of asked_width asked_entry file ≡ Some fault)) ⊎ HasPassed asked_width asked_entry file
