use Rattle.std.proofs.Common.{[], refl, arith}
use Rattle.usuba_model.specs.declared.fault.FaultKind.TheVariants.{UnknownName}
use Rattle.usuba_phases.specs.State.Names.{unknown_in_move}
use Rattle.usuba_phases.specs.State.Scopes.{counters_of}
use Rattle.usuba_phases.proofs.FirstSome.{loop-step}
use Rattle.usuba_phases.proofs.Firsts.{fault_in, loop-found}
use Rattle.usuba_phases.proofs.unknown.check_moves.Goals as goal

pub loop-shift-preserved : goal.loop-shift-preserved
loop-shift-preserved c =
    loop-step (fault_in UnknownName (unknown_in_move (counters_of c.args.scope.now))) c.args.moves.now
    c.loop-shift.shift-index c.shift-item.result c.loop-shift.fault c.check_index.result c.or-fault.result _
    (omega arith) c.shift-item.is c.check_index.ensures c.or-fault.ensures c.loop-shift.invariant

pub returns : goal.returns
returns c =
    loop-found UnknownName (unknown_in_move (counters_of c.args.scope.now)) c.args.moves.now c.args.moves.now _ [] _
    c.loop-shift.fault c.loop-shift.shift-index
    refl (omega arith) refl refl c.loop-shift.invariant
