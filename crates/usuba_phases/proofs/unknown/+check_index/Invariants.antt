use Rattle.std.proofs.Common.{◌≡◌, drop}
use Rattle.std.specs.Option.{option_or}
use Rattle.usuba_model.specs.declared.fault.FaultKind.TheVariants.{UnknownName}
use Rattle.usuba_phases.specs.State.Scopes.{counters_of}
use Rattle.usuba_phases.proofs.FirstSome.{first_some}
use Rattle.usuba_phases.proofs.Firsts.{fault_in}
use Rattle.usuba_phases.proofs.Trees.{index_operand}
use Rattle.usuba_phases.proofs.unknown.+check_index.Given as goal

abbrev pub decreases-check_index : goal.decreases-check_index
decreases-check_index l = goal.size-check_index l

abbrev pub invariant-loop-link : goal.invariant-loop-link
invariant-loop-link l =
    option_or l.fault
    (first_some (fault_in UnknownName (index_operand (counters_of l.scope))) (drop l.link-index l.link-items))
    ≡ option_or l.initial.fault (first_some (fault_in UnknownName (index_operand (counters_of l.scope))) l.link-items)
