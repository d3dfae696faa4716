-- What is answered for a judged source: its core, or the limit that its core passes.
use Rattle.std.specs.Prelude.{◌≡◌, ◌<◌, Some}
use Rattle.usuba0.specs.Circuit.{Circuit, IsSmall, weight, columns}
use Rattle.usuba0.specs.declared.finish.CloseFault.{CloseFault}
use Rattle.usuba0.specs.declared.finish.CloseFault.TheVariants as close_fault
use Rattle.usuba0.specs.declared.limit.TheConstants.{MAX_WEIGHT, MAX_COLUMNS}
use Rattle.usuba_types.specs.Judged.{Program}
use Rattle.source_terms.specs.SourceTerms.{core_of_source}
use Rattle.flatten.specs.declared.fault.FlatFault.{FlatFault}
use Rattle.flatten.specs.declared.fault.FlatFault.TheVariants as flat_fault

-- the core is that of the program's entry, at the program's width
abbrev pub IsCoreOf : Program → Circuit → Type 0
IsCoreOf program core = core_of_source program.width program.file program.entry ≡ Some core

-- a refusal has its cause: the core has too many equations for its width, or else too many columns; want of memory has
-- none
abbrev pub IsFlatRefusal : Program → FlatFault → Type 0
IsFlatRefusal program flat_fault.CoreTooLarge = (core : Circuit) × IsCoreOf program core × (MAX_WEIGHT < weight core)
IsFlatRefusal program flat_fault.ColumnsTooMany =
    (core : Circuit) × IsCoreOf program core × IsSmall core × (MAX_COLUMNS < columns core)
IsFlatRefusal program (flat_fault.Memory error) = Unit {0}

-- the refusal of a circuit, as one of a source
abbrev pub flat_fault_of : CloseFault → FlatFault
flat_fault_of close_fault.CoreTooLarge = flat_fault.CoreTooLarge
flat_fault_of close_fault.ColumnsTooMany = flat_fault.ColumnsTooMany
flat_fault_of (close_fault.Memory error) = flat_fault.Memory error
