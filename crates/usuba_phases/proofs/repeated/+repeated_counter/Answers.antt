use Rattle.std.proofs.Common.{[], ◌∷◌, ◌++◌, sym, ap, ◌∙◌, arith}
use Rattle.usuba_model.specs.declared.fault.FaultKind.TheVariants.{DuplicateName}
use Rattle.std.specs.Prelude.{flat_map}
use Rattle.usuba_model.specs.Faults.{first_of}
use Rattle.usuba_model.specs.Names.{repeated, repeated_counters}
use Rattle.usuba_phases.specs.State.Names.{names_in}
use Rattle.usuba_phases.specs.State.Scopes.{counters_of}
use Rattle.usuba_phases.proofs.FirstSome.{loop-step}
use Rattle.usuba_phases.proofs.Firsts.{fault_in, loop-found}
use Rattle.usuba_phases.proofs.Trees.{counters_of_item, counters-equation, counters-loop}
use Rattle.usuba_phases.proofs.repeated.+repeated_counter.Goals as goal

pub returns-in-Equation : goal.returns-in-Equation
returns-in-Equation t c =
    ap (first_of DuplicateName)
    (sym (counters-equation (names_in c.args.declared.now) c.args.item.now _ (counters_of c.args.scope.now)
    c.in-Equation.is))

pub loop-inner-preserved : goal.loop-inner-preserved
loop-inner-preserved t c =
    loop-step
    (fault_in DuplicateName (counters_of_item (names_in c.args.declared.now)
    (c.as_str.result.now ∷ counters_of c.args.scope.now)))
    c.as_slice-inner-items.result.now c.loop-inner.inner-index c.inner-item.result c.loop-inner.fault
    c.repeated_counter.result c.or-fault.result _
    (omega arith) c.inner-item.is c.repeated_counter.ensures c.or-fault.ensures c.loop-inner.invariant

pub returns-after-loop-inner : goal.returns-after-loop-inner
returns-after-loop-inner t c =
    loop-found DuplicateName
    (counters_of_item (names_in c.args.declared.now) (c.as_str.result.now ∷ (counters_of c.args.scope.now)))
    c.as_slice-inner-items.result.now c.in-Loop.repeat.items
    (repeated_counters (names_in c.args.declared.now) c.args.item.now (counters_of c.args.scope.now))
    (repeated ((names_in c.args.declared.now) ++ (counters_of c.args.scope.now)) c.in-Loop.repeat.counter ∷ []) _
    c.loop-inner.fault c.loop-inner.inner-index
    c.as_slice-inner-items.ensures (omega arith)
    (counters-loop (names_in c.args.declared.now) c.args.item.now c.in-Loop.repeat (counters_of c.args.scope.now)
    c.in-Loop.is
    ∙ ap
    (λ text. (repeated ((names_in c.args.declared.now) ++ (counters_of c.args.scope.now)) c.in-Loop.repeat.counter ∷ [])
    ++ flat_map (counters_of_item (names_in c.args.declared.now) (text ∷ (counters_of c.args.scope.now)))
    c.in-Loop.repeat.items)
    (sym c.as_str.ensures)) c.check_counter-fault.ensures c.loop-inner.invariant
