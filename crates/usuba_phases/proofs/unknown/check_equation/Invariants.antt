use Rattle.std.proofs.Common.{◌≡◌, drop}
use Rattle.std.specs.Option.{option_or}
use Rattle.usuba_model.specs.declared.fault.FaultKind.TheVariants.{UnknownName}
use Rattle.usuba_model.specs.Names.{unknown_in_spot}
use Rattle.usuba_phases.specs.State.Names.{names_in}
use Rattle.usuba_phases.specs.State.Scopes.{counters_of}
use Rattle.usuba_phases.proofs.FirstSome.{first_some}
use Rattle.usuba_phases.proofs.Firsts.{fault_in}
use Rattle.usuba_phases.proofs.unknown.check_equation.Given as goal

abbrev pub invariant-loop-spot : goal.invariant-loop-spot
invariant-loop-spot l =
    option_or l.fault
    (first_some (fault_in UnknownName (unknown_in_spot (names_in l.declared) (counters_of l.scope)))
    (drop l.spot-index l.spot-items))
    ≡ option_or l.initial.fault (first_some
    (fault_in UnknownName (unknown_in_spot (names_in l.declared) (counters_of l.scope))) l.spot-items)
