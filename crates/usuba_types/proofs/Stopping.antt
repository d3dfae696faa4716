-- Counts that stop at the greatest number, and what is tested of them.
use Rattle.std.proofs.Common.{◌≡◌, inl, inr, ℕ, zero, suc, ◌*◌, ◌^◌, ◌<◌, ◌≤◌, min, ap, ◌∙◌, arith}
use Rattle.std.proofs.Math.Pow.{pow_mono}
use Rattle.std.proofs.lemmas.Bool.{cases_lt}
use Rattle.usuba_types.specs.Sizes.{greatest}

-- a power past the greatest number stops there
pub power_past : (exponent : ℕ) → 64 ≤ exponent → greatest ≡ min (2 ^ exponent) greatest
power_past exponent past = let above : 2 ^ 64 ≤ 2 ^ exponent = pow_mono past in omega (arith, above)

-- a product whose factor stopped at m
pub capped-product : (a b m : ℕ) → min (min a m * b) m ≡ min (a * b) m
capped-product a b m =
    elim (cases_lt m a) [
      | inl above ↦ over b above
      | inr within ↦ (let same : min a m ≡ a = omega arith in ap (λ x. min (x * b) m) same)
    ]
  where
    over : (b : ℕ) → m < a → min (min a m * b) m ≡ min (a * b) m
    over zero above = omega arith
    over (suc k) above =
        let same : min a m ≡ m = omega arith in
        let stopped : min (m * suc k) m ≡ min (a * suc k) m = omega arith in
        ap (λ x. min (x * suc k) m) same ∙ stopped
