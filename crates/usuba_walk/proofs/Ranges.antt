-- The values of a loop's counter, one at a time.
use Rattle.std.proofs.Common.{◌≡◌, zero, suc, [], ◌∷◌, refl, sym, ap, ◌∙◌, arith, add-one}
use Rattle.std.specs.Prelude.{ℤ, pos, negsuc, ◌+ℤ◌, ◌-ℤ◌, ◌≤ℤ◌, ◌<ℤ◌}
use Rattle.std.proofs.lemmas.Int.{ints}
use Rattle.usuba_model.specs.Unrolled.{upwards, from_up}

-- from a value that is at most a bound: that value, then those after it
pub from_up-next : (value high : ℤ) → value ≤ℤ high → from_up value (high -ℤ value) ≡ value ∷ from_up (value +ℤ pos 1) (high -ℤ (value +ℤ pos 1))
from_up-next value high within = at (high -ℤ value) refl
  where
    at : (d : ℤ) → high -ℤ value ≡ d → from_up value d ≡ value ∷ from_up (value +ℤ pos 1) (high -ℤ (value +ℤ pos 1))
    at (pos zero) is =
        let none : high -ℤ (value +ℤ pos 1) ≡ negsuc 0 = omega (arith, ints, is) in
        ap (λ d. value ∷ from_up (value +ℤ pos 1) d) (sym none)
    at (pos (suc n)) is =
        let rest : high -ℤ (value +ℤ pos 1) ≡ pos n = omega (arith, ints, is) in
        ap (upwards value) (add-one (suc n))
        ∙ ap (λ k. value ∷ upwards (value +ℤ pos 1) k) (sym (add-one n))
        ∙ ap (λ d. value ∷ from_up (value +ℤ pos 1) d) (sym rest)
    at (negsuc n) is = absurd (omega (arith, ints, is, within))

-- past a bound there are no values
pub from_up-past : (value high : ℤ) → high <ℤ value → from_up value (high -ℤ value) ≡ []
from_up-past value high past = at (high -ℤ value) refl
  where
    at : (d : ℤ) → high -ℤ value ≡ d → from_up value d ≡ []
    at (pos n) is = absurd (omega (arith, ints, is, past))
    at (negsuc n) is = refl

-- at a bound there is one value
pub from_up-last : (value high : ℤ) → value ≡ high → from_up value (high -ℤ value) ≡ value ∷ []
from_up-last value high is =
    let none : high -ℤ value ≡ pos 0 = omega (arith, ints, is) in
    ap (from_up value) none
