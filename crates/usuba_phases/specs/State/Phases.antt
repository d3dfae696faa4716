-- The parts of the phases.
use Rattle.std.specs.Prelude.{◌≡◌, ℕ, Bool, false, List, [], Option, Some, None, if◌then◌else◌}
use Rattle.usuba_trees.specs.declared.Def.{Def}
use Rattle.usuba_trees.specs.declared.Def.TheVariants as def
use Rattle.usuba_trees.specs.declared.File.{File}
use Rattle.usuba_trees.specs.declared.Grid.{Grid}
use Rattle.usuba_model.specs.declared.fault.FaultKind.TheVariants.{DuplicateName, UnknownName, BadTable, BadPerm}
use Rattle.usuba_model.specs.declared.fault.Fault.{Fault}
use Rattle.usuba_model.specs.Entries.{entry_of, entry_fault, is_asked_for, width_of, is_bad_table, is_bad_permutation}
use Rattle.usuba_model.specs.Faults.{first_of, either}
use Rattle.usuba_model.specs.Names.{repeated_names, unknown_names}
use Rattle.usuba_model.specs.Shapes.{all_elements}
use Rattle.usuba_phases.specs.declared.early.Early.{Early}
use Rattle.usuba_phases.specs.declared.early.Early.TheVariants as early
use Rattle.usuba_phases.specs.Early.{early_fault_at}

-- whether a definition is a node that may be the entry
abbrev pub may_be_entry : Option (List ℕ) → Def → Bool
may_be_entry asked (def.Node node) = is_asked_for asked node
may_be_entry asked (def.Table grid) = false
may_be_entry asked (def.Perm grid) = false

-- whether a table is bad
abbrev pub table_is_bad : Grid → Bool
table_is_bad grid = is_bad_table (all_elements grid.inputs) (all_elements grid.outputs) grid.entries

-- whether a permutation is bad
abbrev pub permutation_is_bad : Grid → Bool
permutation_is_bad grid = is_bad_permutation (all_elements grid.inputs) (all_elements grid.outputs) grid.entries

-- the fault of a table
abbrev pub table_fault : Grid → Option Fault
table_fault grid = if table_is_bad grid then Some (record { kind = BadTable; place = grid.name.place }) else None

-- the fault of a permutation
abbrev pub permutation_fault : Grid → Option Fault
permutation_fault grid =
    if permutation_is_bad grid then Some (record { kind = BadPerm; place = grid.name.place }) else None

-- a table or permutation that is bad
abbrev pub grid_fault_in : Def → Option Fault
grid_fault_in (def.Node node) = None
grid_fault_in (def.Table grid) = table_fault grid
grid_fault_in (def.Perm grid) = permutation_fault grid

-- the first fault of the names
abbrev pub names_fault : File → Option Fault
names_fault file =
    either (first_of DuplicateName (repeated_names [] file.defs)) (first_of UnknownName (unknown_names [] file.defs))

-- the first fault of the phases from the third to the fifth
abbrev pub after_names_fault : Option ℕ → Option (List ℕ) → File → Option Fault
after_names_fault asked_width asked_entry file =
    either (entry_fault (entry_of asked_entry file.defs))
    (early_fault_at (width_of asked_width file.defs) file.defs (entry_of asked_entry file.defs))

-- what the phases from the fourth to the fifth come to for this entry
abbrev pub IsAtEntry : Option ℕ → File → ℕ → Early → Type 0
IsAtEntry asked_width file entry (early.Fault fault) =
    early_fault_at (width_of asked_width file.defs) file.defs (Some entry) ≡ Some fault
IsAtEntry asked_width file entry (early.Passed width at) =
    (early_fault_at (width_of asked_width file.defs) file.defs (Some entry) ≡ None)
    × (width_of asked_width file.defs ≡ Some width) × (at ≡ entry)

-- what the phases from the third to the fifth come to
abbrev pub IsAfterNames : Option ℕ → Option (List ℕ) → File → Early → Type 0
IsAfterNames asked_width asked_entry file (early.Fault fault) =
    after_names_fault asked_width asked_entry file ≡ Some fault
IsAfterNames asked_width asked_entry file (early.Passed width entry) =
    (after_names_fault asked_width asked_entry file ≡ None) × (width_of asked_width file.defs ≡ Some width)
    × (entry_of asked_entry file.defs ≡ Some entry)
