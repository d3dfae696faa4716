-- When a derivation shows its leak.
use Rattle.std.specs.Prelude.{◌≢◌, ℕ, List, ◌++◌, map, All}
use Rattle.span_model.specs.Columns.{Columns, empty}
use Rattle.span_model.specs.Span.{InSpan}
use Rattle.span_model.specs.Attack.{Product}
use Rattle.span_model.specs.Closure.{Step as ProductStep, operand, co_operands}
use Rattle.linear_view.specs.Sides.{step_of}
use Rattle.attack_model.specs.Derivations.{step_at, operand_of}
use Rattle.attack_model.specs.declared.attack.Step.{Step}

-- a step as its product and side alone
abbrev pub product_step : Step → ProductStep
product_step step = step_of (operand_of step)

-- the steps of these numbers
abbrev pub used_steps : List Step → (uses : List ℕ) → List ProductStep
used_steps steps uses = map (λ k. product_step (step_at steps k)) uses

-- the step's operand with the co-operands of its uses spans the leak
abbrev pub IsDerived : {C : Type 0} → List (Product C) → Columns C → List Step → Step → Type 0
IsDerived products leak steps step =
    InSpan (operand products (product_step step) ++ co_operands products (used_steps steps step.uses)) leak

-- the leak is not empty, each step's operand with the co-operands of its uses spans it, and the co-operands of the root's uses span it
pub record IsSound {C : Type 0} (products : List (Product C)) (leak : Columns C) (steps : List Step) (root : List ℕ) : Type 0 where
  pub nonempty : leak ≢ empty
  pub derived : All (IsDerived products leak steps) steps
  pub shown : InSpan (co_operands products (used_steps steps root)) leak
