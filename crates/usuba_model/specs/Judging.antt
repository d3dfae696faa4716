-- The judged faults of a file: the first fault of the first phase that has one.
use Rattle.std.specs.Prelude.{◌≡◌, ℕ, zero, suc, List, [], ◌∷◌, Option, Some, None}
use Rattle.usuba_trees.specs.declared.Def.{Def}
use Rattle.usuba_trees.specs.declared.File.{File}
use Rattle.usuba_model.specs.declared.fault.FaultKind.TheVariants.{DuplicateName, UnknownName}
use Rattle.usuba_model.specs.Assignments.{twice_fault, unassigned_fault, cyclic_fault}
use Rattle.usuba_model.specs.Entries.{entry_of, entry_fault, width_of, width_fault, grid_fault, name_place}
use Rattle.usuba_model.specs.declared.fault.Fault.{Fault}
use Rattle.usuba_model.specs.Faults.{first_of, either}
use Rattle.usuba_model.specs.Names.{name_of, repeated_names, unknown_names}
use Rattle.usuba_model.specs.Operations.{definition_size, size_fault}
use Rattle.usuba_model.specs.Walk.{Signature, signature, definition_steps, walk_fault}

-- the first fault of the walks through definitions at width w, each with a count of its own
abbrev pub walks_fault : ℕ → List Signature → List Def → Option Fault
walks_fault w signatures [] = None
walks_fault w signatures (d ∷ rest) =
    either (walk_fault 0 (definition_steps w signatures d)) (walks_fault w (signature d ∷ signatures) rest)

-- the name of the definition at a number
abbrev pub name_at : List Def → ℕ → List ℕ
name_at [] k = []
name_at (d ∷ rest) zero = (name_of d).text
name_at (d ∷ rest) (suc k) = name_at rest k

-- the faults of the phases from the sixth on, at width w
abbrev pub later_fault : ℕ → List Def → ℕ → Option Fault
later_fault w defs entry =
    either (walks_fault w [] defs)
    (either (twice_fault defs)
    (either (unassigned_fault defs)
    (either (cyclic_fault defs)
    (size_fault (name_place defs entry) (definition_size w defs (name_at defs entry))))))

-- those from the sixth on, where the program has a width
abbrev pub later_fault_at : Option ℕ → List Def → ℕ → Option Fault
later_fault_at (Some w) defs entry = later_fault w defs entry
later_fault_at None defs entry = None

-- those from the fourth on, for this entry
abbrev pub fault_at_entry : Option ℕ → List Def → Option ℕ → Option Fault
fault_at_entry asked_width defs (Some entry) =
    either (width_fault defs entry (width_of asked_width defs))
    (either (grid_fault defs) (later_fault_at (width_of asked_width defs) defs entry))
fault_at_entry asked_width defs None = None

-- the first fault of the first phase that has one, for the width and the entry that are asked for
abbrev pub fault_of : Option ℕ → Option (List ℕ) → File → Option Fault
fault_of asked_width asked_entry file =
    either (first_of DuplicateName (repeated_names [] file.defs))
    (either (first_of UnknownName (unknown_names [] file.defs))
    (either (entry_fault (entry_of asked_entry file.defs)) (fault_at_entry asked_width file.defs (entry_of asked_entry file.defs))))

-- a file without a fault is judged: it has this width, and its entry stands at this place among the definitions
pub record IsJudged (asked_width : Option ℕ) (asked_entry : Option (List ℕ)) (file : File) (width entry : ℕ) : Type 0 where
  pub no_fault : fault_of asked_width asked_entry file ≡ None
  pub has_width : width_of asked_width file.defs ≡ Some width
  pub has_entry : entry_of asked_entry file.defs ≡ Some entry
