-- Closures that stay in a bound.
use Rattle.std.proofs.Common.{◌≡◌, ◌≢◌, inl, inr, List, [], ◌∷◌, ◌++◌}
use Rattle.span_model.specs.Columns.{Columns, empty}
use Rattle.span_model.specs.Span.{InSpan, Spans}
use Rattle.span_model.specs.Attack.{Product, IsLeak}
use Rattle.span_model.specs.Closure.{Step, operand, co_operand, co_operands, IsChain}
use Rattle.span_model.specs.Bounds.{IsMet, IsBounded, AreBounded, IsOutside, ClosuresStayInBounds}
use Rattle.span_model.proofs.Members.{spans_none, spans_both, in_behind, in_front}
use Rattle.span_model.proofs.Closing.{attack_closes}

module _ {C : Type 0} where
  -- what rows span with others, they span with a bound that spans these
  operand_with : (rows bound less : List (Columns C)) → Spans bound less → Spans (rows ++ bound) (rows ++ less)
  operand_with rows bound less within =
      spans_both (rows ++ bound) rows less (λ v m. in_behind rows bound v m) (λ v m. in_front rows bound v (within v m))

  -- a step that meets the set is bounded by its third case
  step_bounded : (products : List (Product C)) (space bound : List (Columns C)) (earlier : List (List (Columns C)))
      (v : Columns C) → v ≢ empty → IsOutside earlier v → (step : Step) → IsMet products space bound step v
      → IsBounded products space bound earlier step → Spans bound (co_operand products step)
  step_bounded products space bound earlier v some outside step met (inl gone) = absurd (some (gone v met))
  step_bounded products space bound earlier v some outside step met (inr (inl before)) =
      absurd (outside before.0 before.1 (before.2 v met))
  step_bounded products space bound earlier v some outside step met (inr (inr whole)) = whole.1

  -- the whole closure of a set of the space that lies in no earlier space is inside the bound
  pub closure_bounded : (products : List (Product C)) (space bound : List (Columns C))
      (earlier : List (List (Columns C))) → AreBounded products space bound earlier
      → (v : Columns C) → v ≢ empty → InSpan space v → IsOutside earlier v
      → (steps : List Step) → IsChain products v steps → Spans bound (co_operands products steps)
  closure_bounded products space bound earlier bounded v some here outside [] chain = spans_none bound
  closure_bounded products space bound earlier bounded v some here outside (step ∷ before) chain =
      let rest = closure_bounded products space bound earlier bounded v some here outside before chain.2 in
      let more = operand_with (operand products step) bound (co_operands products before) rest in
      let met : IsMet products space bound step v = record { in_space = here; in_operand = more v chain.1 } in
      spans_both bound (co_operand products step) (co_operands products before)
      (step_bounded products space bound earlier v some outside step met (bounded step chain.0)) rest

  -- such a set is no leak where only the empty set is in the space and in the bound
  pub bounded_no_leak : (products : List (Product C)) (space bound : List (Columns C))
      (earlier : List (List (Columns C))) → AreBounded products space bound earlier
      → ((v : Columns C) → InSpan space v → InSpan bound v → v ≡ empty)
      → (v : Columns C) → InSpan space v → IsOutside earlier v → ¬ IsLeak products v
  bounded_no_leak products space bound earlier bounded apart v here outside leak =
      let closed = attack_closes products leak.0 v leak.1 leak.2 in
      let some : v ≢ empty = leak.2.nonempty in
      let within = closure_bounded products space bound earlier bounded v some here outside closed.0 closed.1 in
      some (apart v here (within v closed.2))

  pub closures_stay_in_bounds : ClosuresStayInBounds C
  closures_stay_in_bounds = record { closure = closure_bounded; no_leak = bounded_no_leak }
