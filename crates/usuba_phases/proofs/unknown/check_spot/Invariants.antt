use Rattle.std.proofs.Common.{◌≡◌, drop}
use Rattle.std.specs.Option.{option_or}
use Rattle.usuba_model.specs.declared.fault.FaultKind.TheVariants.{UnknownName}
use Rattle.usuba_model.specs.Names.{unknown_in_pick}
use Rattle.usuba_phases.specs.State.Scopes.{counters_of}
use Rattle.usuba_phases.proofs.FirstSome.{first_some}
use Rattle.usuba_phases.proofs.Firsts.{fault_in}
use Rattle.usuba_phases.proofs.unknown.check_spot.Given as goal

abbrev pub invariant-loop-pick : goal.invariant-loop-pick
invariant-loop-pick l =
    option_or l.fault
    (first_some (fault_in UnknownName (unknown_in_pick (counters_of l.scope))) (drop l.pick-index l.pick-items))
    ≡ option_or l.initial.fault (first_some (fault_in UnknownName (unknown_in_pick (counters_of l.scope))) l.pick-items)
