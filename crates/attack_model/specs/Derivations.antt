-- Derivations: steps that use steps before them, and a root that uses steps.
use Rattle.std.specs.Prelude.{◌≡◌, ◌<◌, ◌&&◌, ℕ, suc, Bool, true, nat_lt, nat_le, List, [], ◌∷◌, length, slice_index_or}
use Rattle.linear_view.specs.declared.operand.Operand.{Operand}
use Rattle.linear_view.specs.declared.operand.Side.TheVariants.{Left}
use Rattle.attack_model.specs.declared.attack.Step.{Step}

-- the step of this number; past the end one that uses no step
abbrev pub step_at : List Step → ℕ → Step
step_at steps k = slice_index_or steps k (record { product = 0; side = Left; uses = [] })

-- the operand that a step takes
abbrev pub operand_of : Step → Operand
operand_of step = record { product = step.product; side = step.side }

-- the test for numbers that rise from `least` on and stay below the bound
abbrev pub are_uses : (least bound : ℕ) → List ℕ → Bool
are_uses least bound [] = true
are_uses least bound (earlier ∷ uses) =
    nat_le least earlier && nat_lt earlier bound && are_uses (suc earlier) bound uses

-- uses of steps below the bound, in rising order
abbrev pub AreUses : ℕ → List ℕ → Type 0
AreUses bound uses = are_uses 0 bound uses ≡ true

-- each step uses steps before it, and the root any of the steps
pub record IsInOrder (steps : List Step) (root : List ℕ) : Type 0 where
  pub earlier : (k : ℕ) → k < length steps → AreUses k (step_at steps k).uses
  pub within : AreUses (length steps) root
