use Rattle.std.proofs.Common.{◌∷◌, ◌++◌, sym, ap, ◌∙◌, arith}
use Rattle.usuba_model.specs.declared.fault.FaultKind.TheVariants.{UnknownName}
use Rattle.usuba_model.specs.Faults.{first_of}
use Rattle.usuba_model.specs.Names.{unknown_in_index}
use Rattle.std.specs.Prelude.{flat_map}
use Rattle.usuba_phases.specs.State.Scopes.{counters_of}
use Rattle.usuba_phases.specs.State.Names.{names_in}
use Rattle.usuba_phases.proofs.FirstSome.{loop-step}
use Rattle.usuba_phases.proofs.Firsts.{fault_in, loop-found}
use Rattle.usuba_phases.proofs.Trees.{item_of, item-equation, item-loop}
use Rattle.usuba_phases.proofs.unknown.+check_item.Goals as goal

pub returns-in-Equation : goal.returns-in-Equation
returns-in-Equation t c =
    c.check_equation.ensures
    ∙ ap (first_of UnknownName) (sym
    (item-equation (names_in c.args.defined.now) (names_in c.args.declared.now) c.args.item.now _
    (counters_of c.args.scope.now) c.in-Equation.is))

pub loop-inner-preserved : goal.loop-inner-preserved
loop-inner-preserved t c =
    loop-step
    (fault_in UnknownName (item_of (names_in c.args.defined.now) (names_in c.args.declared.now)
    (c.as_str.result.now ∷ counters_of c.args.scope.now)))
    c.as_slice-inner-items.result.now c.loop-inner.inner-index c.inner-item.result c.loop-inner.fault
    c.check_item.result c.or-fault.result _
    (omega arith) c.inner-item.is c.check_item.ensures c.or-fault.ensures c.loop-inner.invariant

pub returns-after-loop-inner : goal.returns-after-loop-inner
returns-after-loop-inner t c =
    loop-found UnknownName
    (item_of (names_in c.args.defined.now) (names_in c.args.declared.now)
    (c.as_str.result.now ∷ (counters_of c.args.scope.now)))
    c.as_slice-inner-items.result.now c.in-Loop.repeat.items
    (item_of (names_in c.args.defined.now) (names_in c.args.declared.now) (counters_of c.args.scope.now)
    c.args.item.now)
    (unknown_in_index c.in-Loop.repeat.low (counters_of c.args.scope.now)
    ++ unknown_in_index c.in-Loop.repeat.high (counters_of c.args.scope.now))
    _ c.loop-inner.fault c.loop-inner.inner-index
    c.as_slice-inner-items.ensures (omega arith)
    (item-loop (names_in c.args.defined.now) (names_in c.args.declared.now) c.args.item.now c.in-Loop.repeat
    (counters_of c.args.scope.now) c.in-Loop.is
    ∙ ap
    (λ text. (unknown_in_index c.in-Loop.repeat.low (counters_of c.args.scope.now)
    ++ unknown_in_index c.in-Loop.repeat.high (counters_of c.args.scope.now))
    ++ flat_map (item_of (names_in c.args.defined.now) (names_in c.args.declared.now)
    (text ∷ (counters_of c.args.scope.now))) c.in-Loop.repeat.items)
    (sym c.as_str.ensures)) c.check_bounds-fault.ensures c.loop-inner.invariant
