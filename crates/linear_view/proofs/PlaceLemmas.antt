-- Places of operands.
use Rattle.std.proofs.Common.{◌≡◌, ◌+◌, ◌*◌, ℕ, ap, arith}
use Rattle.linear_view.specs.Sides.{place_on, place_of}
use Rattle.linear_view.specs.declared.operand.Operand.{Operand}
use Rattle.linear_view.specs.declared.operand.Side.{Side}
use Rattle.linear_view.specs.declared.operand.Side.TheVariants.{Left, Right}

-- operands at the same place are the same
pub same_place : (a b : Operand) → place_of a ≡ place_of b → a ≡ b
same_place a b e = by a.side b.side a.product b.product e
  where
    by : (s t : Side) (j k : ℕ) → 2 * j + place_on s ≡ 2 * k + place_on t
        → (let x : Operand = record { product = j; side = s } in x) ≡ (let y : Operand = record { product = k; side = t } in y)
    by Left Left j k e = ap (λ (n : ℕ). let x : Operand = record { product = n; side = Left } in x) (omega arith)
    by Left Right j k e = absurd (omega arith)
    by Right Left j k e = absurd (omega arith)
    by Right Right j k e = ap (λ (n : ℕ). let x : Operand = record { product = n; side = Right } in x) (omega arith)
