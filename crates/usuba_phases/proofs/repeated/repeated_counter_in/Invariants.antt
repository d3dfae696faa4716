use Rattle.std.proofs.Common.{◌≡◌, drop}
use Rattle.std.specs.Option.{option_or}
use Rattle.usuba_model.specs.declared.fault.FaultKind.TheVariants.{DuplicateName}
use Rattle.usuba_phases.specs.State.Names.{names_in, counters_outermost}
use Rattle.usuba_phases.proofs.FirstSome.{first_some}
use Rattle.usuba_phases.proofs.Firsts.{fault_in}
use Rattle.usuba_phases.proofs.repeated.repeated_counter_in.Given as goal

abbrev pub invariant-loop-item : goal.invariant-loop-item
invariant-loop-item l =
    option_or l.fault
    (first_some (fault_in DuplicateName (counters_outermost (names_in l.declared))) (drop l.item-index l.items))
    ≡ option_or l.initial.fault (first_some (fault_in DuplicateName (counters_outermost (names_in l.declared))) l.items)
