use Rattle.std.proofs.Common.{[], ◌∷◌, refl, arith}
use Rattle.usuba_model.specs.declared.fault.FaultKind.TheVariants.{UnknownName}
use Rattle.usuba_model.specs.Names.{unknown, unknown_in_pick}
use Rattle.usuba_phases.specs.State.Scopes.{counters_of}
use Rattle.usuba_phases.specs.State.Names.{names_in}
use Rattle.usuba_phases.proofs.FirstSome.{loop-step}
use Rattle.usuba_phases.proofs.Firsts.{fault_in, loop-found}
use Rattle.usuba_phases.proofs.unknown.check_spot.Goals as goal

pub loop-pick-preserved : goal.loop-pick-preserved
loop-pick-preserved c =
    loop-step (fault_in UnknownName (unknown_in_pick (counters_of c.args.scope.now))) c.as_slice-pick-items.result.now
    c.loop-pick.pick-index c.pick-item.result c.loop-pick.fault c.check_pick.result c.or-fault.result _
    (omega arith) c.pick-item.is c.check_pick.ensures c.or-fault.ensures c.loop-pick.invariant

pub returns : goal.returns
returns c =
    loop-found UnknownName (unknown_in_pick (counters_of c.args.scope.now)) c.as_slice-pick-items.result.now
    c.args.spot.now.picks _ (unknown (names_in c.args.declared.now) c.args.spot.now.name ∷ []) _ c.loop-pick.fault
    c.loop-pick.pick-index
    c.as_slice-pick-items.ensures (omega arith) refl c.check_name-fault.ensures c.loop-pick.invariant
