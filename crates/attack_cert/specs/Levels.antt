-- The levels of the steps of a leak, and the order in which steps are listed.
use Rattle.std.specs.Prelude.{ℕ, zero, suc, List, [], ◌∷◌, ◌++◌, length, Contains, ⊤}
use Rattle.span_model.specs.Columns.{Columns}
use Rattle.span_model.specs.Span.{InSpan}
use Rattle.span_model.specs.Attack.{Product}
use Rattle.span_model.specs.Closure.{Step, on_left, on_right, operand, co_operands}

-- the steps of the first n products: by product, left before right
abbrev pub steps_of : ℕ → List Step
steps_of zero = []
steps_of (suc k) = steps_of k ++ (record { product = k; side = on_left } ∷ record { product = k; side = on_right } ∷ [])

-- those of the steps of which the fact holds, in the order that they have
pub data AreThose (P : Step → Type 0) : (steps those : List Step) → Type 0 where
  none : AreThose P [] []
  taken : {step : Step} {steps those : List Step} → P step → AreThose P steps those → AreThose P (step ∷ steps) (step ∷ those)
  left_out : {step : Step} {steps those : List Step} → ¬ P step → AreThose P steps those → AreThose P (step ∷ steps) those

-- the steps of levels, the last level first, as they are listed: by level
abbrev pub listed : List (List Step) → List Step
listed [] = []
listed (level ∷ lower) = listed lower ++ level

-- a step has the level above the lower ones where it has none of these, and its operand's rows with the co-operands' rows of all steps of
-- the lower levels span the leak; with no lower level, where its operand's rows span it
pub record HasNextLevel {C : Type 0} (products : List (Product C)) (leak : Columns C) (lower : List (List Step)) (step : Step) : Type 0 where
  pub not_lower : ¬ Contains (listed lower) step
  pub spanned : InSpan (operand products step ++ co_operands products (listed lower)) leak

-- the steps of the levels from 0 on, the last level first
abbrev pub AreLevels : {C : Type 0} → List (Product C) → Columns C → List (List Step) → Type 0
AreLevels products leak [] = ⊤
AreLevels products leak (level ∷ lower) =
    AreThose (HasNextLevel products leak lower) (steps_of (length products)) level × AreLevels products leak lower
