use Rattle.std.proofs.Common.{[], refl, ◌∙◌, arith}
use Rattle.usuba_model.specs.declared.fault.FaultKind.TheVariants.{UnknownName}
use Rattle.std.specs.Prelude.{flat_map}
use Rattle.usuba_model.specs.Names.{unknown_in_spot, unknown_in_expression, unknown_in_equation}
use Rattle.usuba_phases.specs.State.Scopes.{counters_of}
use Rattle.usuba_phases.specs.State.Names.{names_in}
use Rattle.usuba_phases.proofs.FirstSome.{loop-step}
use Rattle.usuba_phases.proofs.Firsts.{fault_in, of-parts, loop-found}
use Rattle.usuba_phases.proofs.unknown.check_equation.Goals as goal

pub loop-spot-preserved : goal.loop-spot-preserved
loop-spot-preserved c =
    loop-step (fault_in UnknownName (unknown_in_spot (names_in c.args.declared.now) (counters_of c.args.scope.now)))
    c.as_slice-spot-items.result.now c.loop-spot.spot-index c.spot-item.result c.loop-spot.fault c.check_spot.result
    c.or-fault.result _
    (omega arith) c.spot-item.is c.check_spot.ensures c.or-fault.ensures c.loop-spot.invariant

pub returns : goal.returns
returns c =
    c.or.ensures
    ∙ of-parts UnknownName
    (unknown_in_equation (names_in c.args.defined.now) (names_in c.args.declared.now) c.args.equation.now
    (counters_of c.args.scope.now))
    (flat_map (unknown_in_spot (names_in c.args.declared.now) (counters_of c.args.scope.now)) c.args.equation.now.left)
    (unknown_in_expression (names_in c.args.defined.now) (names_in c.args.declared.now) c.args.equation.now.right
    (counters_of c.args.scope.now))
    c.loop-spot.fault c.check_expression.result refl
    (loop-found UnknownName (unknown_in_spot (names_in c.args.declared.now) (counters_of c.args.scope.now))
    c.as_slice-spot-items.result.now c.args.equation.now.left
    (flat_map (unknown_in_spot (names_in c.args.declared.now) (counters_of c.args.scope.now)) c.args.equation.now.left)
    [] _ c.loop-spot.fault c.loop-spot.spot-index
    c.as_slice-spot-items.ensures (omega arith) refl refl c.loop-spot.invariant)
    c.check_expression.ensures
