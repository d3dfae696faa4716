use Rattle.std.proofs.Common.{[], ◌∷◌, refl, sym, ap, ◌∙◌, arith}
use Rattle.usuba_model.specs.declared.fault.FaultKind.TheVariants.{UnknownName}
use Rattle.usuba_model.specs.Faults.{first_of}
use Rattle.usuba_model.specs.Names.{unknown}
use Rattle.usuba_trees.specs.declared.Expr.TheVariants as e
use Rattle.usuba_phases.specs.State.Scopes.{counters_of}
use Rattle.usuba_phases.specs.State.Names.{names_in}
use Rattle.usuba_phases.proofs.FirstSome.{loop-step}
use Rattle.usuba_phases.proofs.Firsts.{fault_in, of-parts, loop-found}
use Rattle.usuba_phases.proofs.Trees.{part_of, operand_of, expression-number, expression-spot, expression-tuple}
use Rattle.usuba_phases.proofs.Trees.{expression-call, expression-not, expression-chain, expression-shift}
use Rattle.usuba_phases.proofs.Trees.{expression-refresh}
use Rattle.usuba_phases.proofs.unknown.+check_expression.Goals as goal

pub returns-in-Number : goal.returns-in-Number
returns-in-Number t c =
    ap (first_of UnknownName)
    (sym (expression-number (names_in c.args.defined.now) (names_in c.args.declared.now) c.args.expression.now _ _
    (counters_of c.args.scope.now) c.in-Number.is))

pub returns-in-Spot : goal.returns-in-Spot
returns-in-Spot t c =
    c.check_spot.ensures
    ∙ ap (first_of UnknownName) (sym
    (expression-spot (names_in c.args.defined.now) (names_in c.args.declared.now) c.args.expression.now _
    (counters_of c.args.scope.now) c.in-Spot.is))

pub returns-in-Not : goal.returns-in-Not
returns-in-Not t c =
    c.check_expression-in-Not.ensures
    ∙ ap (first_of UnknownName)
    (sym (expression-not (names_in c.args.defined.now) (names_in c.args.declared.now) c.args.expression.now
    c.in-Not.place c.get.result.now (counters_of c.args.scope.now)
    (c.in-Not.is ∙ ap (e.Not c.in-Not.place) (sym c.get.ensures))))

pub returns-in-Shift : goal.returns-in-Shift
returns-in-Shift t c =
    c.or.ensures
    ∙ of-parts UnknownName
    ((part_of (names_in c.args.defined.now) (names_in c.args.declared.now) (counters_of c.args.scope.now))
    c.args.expression.now)
    ((part_of (names_in c.args.defined.now) (names_in c.args.declared.now) (counters_of c.args.scope.now))
    c.get-in-Shift.result.now)
    _ c.check_expression-in-Shift.result c.check_moves.result
    (expression-shift (names_in c.args.defined.now) (names_in c.args.declared.now) c.args.expression.now
    c.get-in-Shift.result.now c.as_slice.result.now (counters_of c.args.scope.now)
    (c.in-Shift.is ∙ ap (λ f. e.Shift f c.in-Shift.moves) (sym c.get-in-Shift.ensures)
    ∙ ap (e.Shift c.get-in-Shift.result.now) (sym c.as_slice.ensures)))
    c.check_expression-in-Shift.ensures c.check_moves.ensures

pub returns-in-Refresh : goal.returns-in-Refresh
returns-in-Refresh t c =
    c.or-in-Refresh.ensures
    ∙ of-parts UnknownName
    ((part_of (names_in c.args.defined.now) (names_in c.args.declared.now) (counters_of c.args.scope.now))
    c.args.expression.now)
    ((part_of (names_in c.args.defined.now) (names_in c.args.declared.now) (counters_of c.args.scope.now))
    c.get-in-Refresh.result.now)
    _ c.check_expression-in-Refresh.result c.check_index.result
    (expression-refresh (names_in c.args.defined.now) (names_in c.args.declared.now) c.args.expression.now
    c.in-Refresh.place c.get-in-Refresh.result.now c.in-Refresh.number (counters_of c.args.scope.now)
    (c.in-Refresh.is ∙ ap (λ i. e.Refresh c.in-Refresh.place i c.in-Refresh.number) (sym c.get-in-Refresh.ensures)))
    c.check_expression-in-Refresh.ensures c.check_index.ensures

pub loop-part-preserved : goal.loop-part-preserved
loop-part-preserved t c =
    loop-step
    (fault_in UnknownName (part_of (names_in c.args.defined.now) (names_in c.args.declared.now)
    (counters_of c.args.scope.now)))
    c.as_slice-part-items.result.now c.loop-part.part-index c.part-item.result c.loop-part.fault
    c.check_expression.result c.or-fault.result _
    (omega arith) c.part-item.is c.check_expression.ensures c.or-fault.ensures c.loop-part.invariant

pub loop-argument-preserved : goal.loop-argument-preserved
loop-argument-preserved t c =
    loop-step
    (fault_in UnknownName (part_of (names_in c.args.defined.now) (names_in c.args.declared.now)
    (counters_of c.args.scope.now)))
    c.as_slice-argument-items.result.now c.loop-argument.argument-index c.argument-item.result c.loop-argument.fault
    c.check_expression-in-loop-argument.result c.or-fault-in-loop-argument.result _
    (omega arith) c.argument-item.is c.check_expression-in-loop-argument.ensures c.or-fault-in-loop-argument.ensures
    c.loop-argument.invariant

pub loop-link-preserved : goal.loop-link-preserved
loop-link-preserved t c =
    loop-step
    (fault_in UnknownName (operand_of (names_in c.args.defined.now) (names_in c.args.declared.now)
    (counters_of c.args.scope.now)))
    c.as_slice-link-items.result.now c.loop-link.link-index c.link-item.result c.loop-link.fault
    c.check_expression-in-loop-link.result c.or-fault-in-loop-link.result _
    (omega arith) c.link-item.is c.check_expression-in-loop-link.ensures c.or-fault-in-loop-link.ensures
    c.loop-link.invariant

pub returns-after-loop-part : goal.returns-after-loop-part
returns-after-loop-part t c =
    loop-found UnknownName
    (part_of (names_in c.args.defined.now) (names_in c.args.declared.now) (counters_of c.args.scope.now))
    c.as_slice-part-items.result.now c.in-Tuple.parts
    ((part_of (names_in c.args.defined.now) (names_in c.args.declared.now) (counters_of c.args.scope.now))
    c.args.expression.now)
    [] _ c.loop-part.fault c.loop-part.part-index
    c.as_slice-part-items.ensures (omega arith)
    (expression-tuple (names_in c.args.defined.now) (names_in c.args.declared.now) c.args.expression.now
    c.in-Tuple.parts (counters_of c.args.scope.now) c.in-Tuple.is)
    refl c.loop-part.invariant

pub returns-after-loop-argument : goal.returns-after-loop-argument
returns-after-loop-argument t c =
    loop-found UnknownName
    (part_of (names_in c.args.defined.now) (names_in c.args.declared.now) (counters_of c.args.scope.now))
    c.as_slice-argument-items.result.now c.in-Call.args
    ((part_of (names_in c.args.defined.now) (names_in c.args.declared.now) (counters_of c.args.scope.now))
    c.args.expression.now)
    (unknown (names_in c.args.defined.now) c.in-Call.name ∷ []) _ c.loop-argument.fault c.loop-argument.argument-index
    c.as_slice-argument-items.ensures (omega arith)
    (expression-call (names_in c.args.defined.now) (names_in c.args.declared.now) c.args.expression.now c.in-Call.name
    c.in-Call.args (counters_of c.args.scope.now) c.in-Call.is)
    c.check_name-fault.ensures c.loop-argument.invariant

pub returns-after-loop-link : goal.returns-after-loop-link
returns-after-loop-link t c =
    loop-found UnknownName
    (operand_of (names_in c.args.defined.now) (names_in c.args.declared.now) (counters_of c.args.scope.now))
    c.as_slice-link-items.result.now c.in-Chain.rest
    ((part_of (names_in c.args.defined.now) (names_in c.args.declared.now) (counters_of c.args.scope.now))
    c.args.expression.now)
    ((part_of (names_in c.args.defined.now) (names_in c.args.declared.now) (counters_of c.args.scope.now))
    c.get-in-Chain.result.now)
    _ c.loop-link.fault c.loop-link.link-index
    c.as_slice-link-items.ensures (omega arith)
    (expression-chain (names_in c.args.defined.now) (names_in c.args.declared.now) c.args.expression.now c.in-Chain.op
    c.get-in-Chain.result.now c.in-Chain.rest (counters_of c.args.scope.now)
    (c.in-Chain.is ∙ ap (λ f. e.Chain c.in-Chain.op f c.in-Chain.rest) (sym c.get-in-Chain.ensures)))
    c.check_expression-fault.ensures c.loop-link.invariant
