use Rattle.std.proofs.Common.{◌≡◌, [], drop}
use Rattle.usuba_model.specs.declared.fault.FaultKind.TheVariants.{DuplicateName}
use Rattle.usuba_model.specs.Faults.{first_of}
use Rattle.usuba_model.specs.Names.{repeated_names}
use Rattle.usuba_phases.specs.State.Names.{names_in}
use Rattle.usuba_phases.proofs.repeated.repeated_name.Given as goal

abbrev pub invariant-loop-definition : goal.invariant-loop-definition
invariant-loop-definition l =
    first_of DuplicateName (repeated_names (names_in l.names) (drop l.definition-index l.definition-items))
    ≡ first_of DuplicateName (repeated_names [] l.file.defs)
