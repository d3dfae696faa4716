use Rattle.std.proofs.Common.{◌≡◌, ◌+◌, [], ◌∷◌, drop, refl, sym, ap, ◌∙◌, subst, arith, w64, to_z, of_z}
use Rattle.std.specs.Prelude.{pos, ◌+ℤ◌, ◌-ℤ◌, ◌≤ℤ◌, ◌<ℤ◌}
use Rattle.std.proofs.lemmas.Int.{ints, to_z-of_z}
use Rattle.usuba_model.specs.Unrolled.{from_up}
use Rattle.usuba_cells.specs.Counters.{around}
use Rattle.usuba_model.specs.Walk.{walk_fault}
use Rattle.usuba_walk.specs.State.Progress.{Takes, with_instances}
use Rattle.usuba_walk.proofs.Taking.{if_ok, if_fault, passed_on}
use Rattle.usuba_walk.proofs.Expressions.{drop-next}
use Rattle.usuba_walk.proofs.ItemWalks.{one_steps, one_made, items-step, items-fault, item-equation_takes, item-equation_fault, value_steps, value_made, values_steps, values_made, values-step, values-fault, values-end}
use Rattle.usuba_walk.proofs.Ranges.{from_up-next, from_up-past, from_up-last}
use Rattle.usuba_walk.proofs.items.+items.Goals as goal

pub walk_item-returns-in-Equation-clause-takes : goal.walk_item-returns-in-Equation-clause-takes
walk_item-returns-in-Equation-clause-takes t c =
    if_ok c.walk_equation.result (λ _ takes. item-equation_takes c.args.scope.now.width c.args.scope.now.definitions.now c.args.scope.now.variables c.as_slice.result.now c.args.counters.now.items c.args.item.now c.in-Equation.equation
    c.args.progress.now c.walk_equation.new.progress takes c.as_slice.ensures.value c.in-Equation.is) c.walk_equation.ensures.takes

pub walk_item-returns-in-Equation-clause-stops : goal.walk_item-returns-in-Equation-clause-stops
walk_item-returns-in-Equation-clause-stops t c =
    if_fault c.walk_equation.result (λ f known. item-equation_fault c.args.scope.now.width c.args.scope.now.definitions.now c.args.scope.now.variables c.as_slice.result.now c.args.counters.now.items c.args.item.now c.in-Equation.equation
    c.args.progress.now.count f known c.as_slice.ensures.value c.in-Equation.is) c.walk_equation.ensures.stops

pub walk_items-loop-item-preserved : goal.walk_items-loop-item-preserved
walk_items-loop-item-preserved t c =
    let now = c.loop-item.progress in
    let next = c.walk_item.new.progress in
    let item = c.item-item.result in
    record {
      left = items-step c.args.scope.now.width c.args.scope.now.definitions.now c.args.scope.now.variables (around c.args.counters.now.items) c.args.progress.now now next c.args.items.now _ (drop (c.loop-item.item-index + 1) c.args.items.now) item c.loop-item.invariant.left (drop-next c.args.items.now c.loop-item.item-index c.item-item.result (omega arith) c.item-item.is)
          (subst (λ cs. Takes now next (one_steps c.args.scope.now.width c.args.scope.now.definitions.now c.args.scope.now.variables (around cs) item) (with_instances now.table (one_made c.args.scope.now.width c.args.scope.now.definitions.now c.args.scope.now.variables (around cs) item)))
          c.loop-item.invariant.counters c.in_ok-walk_item.ensures.takes);
      counters = c.in_ok-walk_item.ensures.counters_stay ∙ c.loop-item.invariant.counters;
    }

pub walk_items-returns-in_err-walk_item-clause-stops : goal.walk_items-returns-in_err-walk_item-clause-stops
walk_items-returns-in_err-walk_item-clause-stops t c =
    passed_on c.from_residual.result c.walk_item.result _ c.from_residual.ensures.1 c.in_err-walk_item.was
    (λ f known. items-fault c.args.scope.now.width c.args.scope.now.definitions.now c.args.scope.now.variables (around c.args.counters.now.items) c.args.progress.now c.loop-item.progress c.args.items.now _ (drop (c.loop-item.item-index + 1) c.args.items.now) c.item-item.result f c.loop-item.invariant.left (drop-next c.args.items.now c.loop-item.item-index c.item-item.result (omega arith) c.item-item.is)
    (ap (λ cs. walk_fault c.loop-item.progress.count (one_steps c.args.scope.now.width c.args.scope.now.definitions.now c.args.scope.now.variables (around cs) c.item-item.result)) (sym c.loop-item.invariant.counters) ∙ known))
    c.walk_item.ensures.stops

pub walk_instances-loop-value-preserved : goal.walk_instances-loop-value-preserved
walk_instances-loop-value-preserved t c =
    let V = to_z w64 c.loop-value.value-bits in
    let L = to_z w64 (of_z w64 c.args.low) in
    let H = to_z w64 (of_z w64 c.args.high) in
    let low : L ≡ c.args.low = to_z-of_z w64 c.args.low c.ranges.low in
    let high : H ≡ c.args.high = to_z-of_z w64 c.args.high c.ranges.high in
    let N = to_z w64 (of_z w64 (V +ℤ pos 1)) in
    let below : V <ℤ H = omega (arith, ints) in
    let next_is : V +ℤ pos 1 ≡ N = omega (arith, ints) in
    let within : V ≤ℤ H = omega (arith, ints, below) in
    let left : from_up V (H -ℤ V) ≡ V ∷ from_up N (H -ℤ N) = from_up-next V H within ∙ ap (λ n. V ∷ from_up n (H -ℤ n)) next_is in
    let now = c.loop-value.progress in
    let next = c.walk_instance.new.progress in
    let took : Takes now next (value_steps c.args.scope.now.width c.args.scope.now.definitions.now c.args.scope.now.variables (around c.args.counters.now.items) c.args.repeated.now V) (with_instances now.table (value_made c.args.scope.now.width c.args.scope.now.definitions.now c.args.scope.now.variables (around c.args.counters.now.items) c.args.repeated.now V))
    = subst (λ cs. Takes now next (value_steps c.args.scope.now.width c.args.scope.now.definitions.now c.args.scope.now.variables (around cs) c.args.repeated.now V) (with_instances now.table (value_made c.args.scope.now.width c.args.scope.now.definitions.now c.args.scope.now.variables (around cs) c.args.repeated.now V)))
    c.loop-value.invariant.counters c.in_ok-walk_instance.ensures.takes in
    record {
      left = values-step c.args.scope.now.width c.args.scope.now.definitions.now c.args.scope.now.variables (around c.args.counters.now.items) c.args.repeated.now c.args.progress.now now next (from_up L (H -ℤ L)) (from_up V (H -ℤ V)) (from_up N (H -ℤ N)) V c.loop-value.invariant.left left took;
      counters = c.in_ok-walk_instance.ensures.counters_stay ∙ c.loop-value.invariant.counters;
    }

pub walk_instances-returns-in_err-walk_instance-clause-stops : goal.walk_instances-returns-in_err-walk_instance-clause-stops
walk_instances-returns-in_err-walk_instance-clause-stops t c =
    let V = to_z w64 c.loop-value.value-bits in
    let L = to_z w64 (of_z w64 c.args.low) in
    let H = to_z w64 (of_z w64 c.args.high) in
    let low : L ≡ c.args.low = to_z-of_z w64 c.args.low c.ranges.low in
    let high : H ≡ c.args.high = to_z-of_z w64 c.args.high c.ranges.high in
    let all : from_up L (H -ℤ L) ≡ from_up c.args.low (c.args.high -ℤ c.args.low)
    = ap (λ a. from_up a (H -ℤ a)) low ∙ ap (λ b. from_up c.args.low (b -ℤ c.args.low)) high in
    let within : V ≤ℤ H = omega (arith, ints) in
    passed_on c.from_residual.result c.walk_instance.result _ c.from_residual.ensures.1 c.in_err-walk_instance.was
    (λ f known. ap (λ vs. walk_fault c.args.progress.now.count (values_steps c.args.scope.now.width c.args.scope.now.definitions.now c.args.scope.now.variables (around c.args.counters.now.items) c.args.repeated.now vs)) (sym all)
    ∙ values-fault c.args.scope.now.width c.args.scope.now.definitions.now c.args.scope.now.variables (around c.args.counters.now.items) c.args.repeated.now c.args.progress.now c.loop-value.progress (from_up L (H -ℤ L)) (from_up V (H -ℤ V)) (from_up (V +ℤ pos 1) (H -ℤ (V +ℤ pos 1))) V f c.loop-value.invariant.left (from_up-next V H within)
    (ap (λ cs. walk_fault c.loop-value.progress.count (value_steps c.args.scope.now.width c.args.scope.now.definitions.now c.args.scope.now.variables (around cs) c.args.repeated.now V)) (sym c.loop-value.invariant.counters) ∙ known))
    c.walk_instance.ensures.stops

pub walk_instances-returns-clause-takes : goal.walk_instances-returns-clause-takes
walk_instances-returns-clause-takes t c =
    let V = to_z w64 c.loop-value.value-bits in
    let L = to_z w64 (of_z w64 c.args.low) in
    let H = to_z w64 (of_z w64 c.args.high) in
    let low : L ≡ c.args.low = to_z-of_z w64 c.args.low c.ranges.low in
    let high : H ≡ c.args.high = to_z-of_z w64 c.args.high c.ranges.high in
    let all : from_up L (H -ℤ L) ≡ from_up c.args.low (c.args.high -ℤ c.args.low)
    = ap (λ a. from_up a (H -ℤ a)) low ∙ ap (λ b. from_up c.args.low (b -ℤ c.args.low)) high in
    let past : H <ℤ V = omega (arith, ints) in
    subst (λ vs. Takes c.args.progress.now c.loop-value.progress (values_steps c.args.scope.now.width c.args.scope.now.definitions.now c.args.scope.now.variables (around c.args.counters.now.items) c.args.repeated.now vs) (with_instances c.args.progress.now.table (values_made c.args.scope.now.width c.args.scope.now.definitions.now c.args.scope.now.variables (around c.args.counters.now.items) c.args.repeated.now vs))) all
    (values-end c.args.scope.now.width c.args.scope.now.definitions.now c.args.scope.now.variables (around c.args.counters.now.items) c.args.repeated.now c.args.progress.now c.loop-value.progress (from_up L (H -ℤ L)) (from_up V (H -ℤ V)) c.loop-value.invariant.left (from_up-past V H past))

pub walk_instances-returns-in_ok-walk_instance-clause-takes : goal.walk_instances-returns-in_ok-walk_instance-clause-takes
walk_instances-returns-in_ok-walk_instance-clause-takes t c =
    let V = to_z w64 c.loop-value.value-bits in
    let L = to_z w64 (of_z w64 c.args.low) in
    let H = to_z w64 (of_z w64 c.args.high) in
    let low : L ≡ c.args.low = to_z-of_z w64 c.args.low c.ranges.low in
    let high : H ≡ c.args.high = to_z-of_z w64 c.args.high c.ranges.high in
    let all : from_up L (H -ℤ L) ≡ from_up c.args.low (c.args.high -ℤ c.args.low)
    = ap (λ a. from_up a (H -ℤ a)) low ∙ ap (λ b. from_up c.args.low (b -ℤ c.args.low)) high in
    let last : V ≡ H = omega (arith, ints) in
    let now = c.loop-value.progress in
    let next = c.walk_instance.new.progress in
    let took : Takes now next (value_steps c.args.scope.now.width c.args.scope.now.definitions.now c.args.scope.now.variables (around c.args.counters.now.items) c.args.repeated.now V) (with_instances now.table (value_made c.args.scope.now.width c.args.scope.now.definitions.now c.args.scope.now.variables (around c.args.counters.now.items) c.args.repeated.now V))
    = subst (λ cs. Takes now next (value_steps c.args.scope.now.width c.args.scope.now.definitions.now c.args.scope.now.variables (around cs) c.args.repeated.now V) (with_instances now.table (value_made c.args.scope.now.width c.args.scope.now.definitions.now c.args.scope.now.variables (around cs) c.args.repeated.now V)))
    c.loop-value.invariant.counters c.in_ok-walk_instance.ensures.takes in
    subst (λ vs. Takes c.args.progress.now next (values_steps c.args.scope.now.width c.args.scope.now.definitions.now c.args.scope.now.variables (around c.args.counters.now.items) c.args.repeated.now vs) (with_instances c.args.progress.now.table (values_made c.args.scope.now.width c.args.scope.now.definitions.now c.args.scope.now.variables (around c.args.counters.now.items) c.args.repeated.now vs))) all
    (values-end c.args.scope.now.width c.args.scope.now.definitions.now c.args.scope.now.variables (around c.args.counters.now.items) c.args.repeated.now c.args.progress.now next (from_up L (H -ℤ L)) []
    (values-step c.args.scope.now.width c.args.scope.now.definitions.now c.args.scope.now.variables (around c.args.counters.now.items) c.args.repeated.now c.args.progress.now now next (from_up L (H -ℤ L)) (from_up V (H -ℤ V)) [] V c.loop-value.invariant.left (from_up-last V H last) took) refl)
