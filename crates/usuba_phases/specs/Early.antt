-- The phases of judging up to the fifth: names, the entry, the width, tables and permutations.
use Rattle.std.specs.Prelude.{◌≡◌, ◌⊎◌, ℕ, List, [], Option, Some, None}
use Rattle.usuba_trees.specs.declared.Def.{Def}
use Rattle.usuba_trees.specs.declared.File.{File}
use Rattle.usuba_model.specs.declared.fault.FaultKind.TheVariants.{DuplicateName, UnknownName}
use Rattle.usuba_model.specs.declared.fault.Fault.{Fault}
use Rattle.usuba_model.specs.Entries.{entry_of, entry_fault, width_of, width_fault, grid_fault}
use Rattle.usuba_model.specs.Faults.{first_of, either}
use Rattle.usuba_model.specs.Judging.{fault_of, later_fault}
use Rattle.usuba_model.specs.Names.{repeated_names, unknown_names}
use Rattle.usuba_phases.specs.declared.early.Early.{Early}
use Rattle.usuba_phases.specs.declared.early.Early.TheVariants as early

-- the first fault of the fourth and the fifth phase, for this width and this entry
abbrev pub early_fault_at : Option ℕ → List Def → Option ℕ → Option Fault
early_fault_at width defs (Some entry) = either (width_fault defs entry width) (grid_fault defs)
early_fault_at width defs None = None

-- the first fault of the first of the five phases that has one, for the width and the entry that are asked for
abbrev pub early_fault_of : Option ℕ → Option (List ℕ) → File → Option Fault
early_fault_of asked_width asked_entry file =
    either (first_of DuplicateName (repeated_names [] file.defs))
    (either (first_of UnknownName (unknown_names [] file.defs))
    (either (entry_fault (entry_of asked_entry file.defs))
    (early_fault_at (width_of asked_width file.defs) file.defs (entry_of asked_entry file.defs))))

-- a file passes the five phases: they have no fault, it has this width, and its entry stands at this place among its
-- definitions
pub record IsPassed (asked_width : Option ℕ) (asked_entry : Option (List ℕ)) (file : File) (width entry : ℕ)
    : Type 0 where
  pub no_fault : early_fault_of asked_width asked_entry file ≡ None
  pub has_width : width_of asked_width file.defs ≡ Some width
  pub has_entry : entry_of asked_entry file.defs ≡ Some entry

-- what the five phases come to
abbrev pub IsEarly : Option ℕ → Option (List ℕ) → File → Early → Type 0
IsEarly asked_width asked_entry file (early.Fault fault) = early_fault_of asked_width asked_entry file ≡ Some fault
IsEarly asked_width asked_entry file (early.Passed width entry) = IsPassed asked_width asked_entry file width entry

-- the five phases have a fault, or the file passes them
abbrev pub PassedOrEarly : Type 0
PassedOrEarly = (asked_width : Option ℕ) (asked_entry : Option (List ℕ)) (file : File)
    → ((fault : Fault) × (early_fault_of asked_width asked_entry file ≡ Some fault))
    ⊎ ((width : ℕ) × (entry : ℕ) × IsPassed asked_width asked_entry file width entry)

-- a fault of the five phases is the first of the file, and the first fault of a file that passes them is that of the
-- later phases
abbrev pub EarlyFaultsComeFirst : Type 0
EarlyFaultsComeFirst = (asked_width : Option ℕ) (asked_entry : Option (List ℕ)) (file : File)
    → ((fault : Fault) → early_fault_of asked_width asked_entry file ≡ Some fault
    → fault_of asked_width asked_entry file ≡ Some fault)
    × ((width entry : ℕ) → IsPassed asked_width asked_entry file width entry
    → fault_of asked_width asked_entry file ≡ later_fault width file.defs entry)
