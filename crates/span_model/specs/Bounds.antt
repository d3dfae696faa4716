-- Spaces of sets of columns whose closures stay in a bound.
use Rattle.std.specs.Prelude.{◌≡◌, ◌≢◌, ◌<◌, ◌⊎◌, List, ◌++◌, length, Contains}
use Rattle.span_model.specs.Columns.{Columns, empty}
use Rattle.span_model.specs.Span.{InSpan, Spans}
use Rattle.span_model.specs.Attack.{Product, IsLeak}
use Rattle.span_model.specs.Closure.{Step, operand, co_operand, co_operands, IsChain}

-- the set is in the space, and in the span of the step's operand with the bound
pub record IsMet {C : Type 0} (products : List (Product C)) (space bound : List (Columns C)) (step : Step)
    (v : Columns C) : Type 0 where
  pub in_space : InSpan space v
  pub in_operand : InSpan (operand products step ++ bound) v

-- the sets that are met are the empty set alone; or they lie in an earlier space; or they are the whole space, and the
-- step's co-operand is in the bound
abbrev pub IsBounded : {C : Type 0} → List (Product C) → (space bound : List (Columns C))
    → (earlier : List (List (Columns C))) → Step → Type 0
IsBounded {C} products space bound earlier step =
    ((v : Columns C) → IsMet products space bound step v → v ≡ empty)
    ⊎ ((other : List (Columns C)) × Contains earlier other
    × ((v : Columns C) → IsMet products space bound step v → InSpan other v))
    ⊎ (Spans (operand products step ++ bound) space × Spans bound (co_operand products step))

-- each step of the products is bounded
abbrev pub AreBounded : {C : Type 0} → List (Product C) → (space bound : List (Columns C))
    → (earlier : List (List (Columns C))) → Type 0
AreBounded products space bound earlier =
    (step : Step) → step.product < length products → IsBounded products space bound earlier step

-- the set lies in none of the spaces
abbrev pub IsOutside : {C : Type 0} → List (List (Columns C)) → Columns C → Type 0
IsOutside {C} spaces v = (other : List (Columns C)) → Contains spaces other → ¬ InSpan other v

-- a set of the space that lies in no earlier space has its whole closure inside the bound, where each step is bounded;
-- and it is no leak, where only the empty set is in the space and in the bound
pub record ClosuresStayInBounds (C : Type 0) : Type 0 where
  pub closure : (products : List (Product C)) (space bound : List (Columns C)) (earlier : List (List (Columns C)))
      → AreBounded products space bound earlier → (v : Columns C) → v ≢ empty → InSpan space v → IsOutside earlier v
      → (steps : List Step) → IsChain products v steps → Spans bound (co_operands products steps)
  pub no_leak : (products : List (Product C)) (space bound : List (Columns C)) (earlier : List (List (Columns C)))
      → AreBounded products space bound earlier → ((v : Columns C) → InSpan space v → InSpan bound v → v ≡ empty)
      → (v : Columns C) → InSpan space v → IsOutside earlier v → ¬ IsLeak products v
