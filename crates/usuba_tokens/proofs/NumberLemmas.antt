-- The value of digits never falls as digits follow.
use Rattle.std.proofs.Common.{◌≡◌, ℕ, ◌+◌, ◌*◌, ◌<◌, ◌≤◌, ◌^◌, List, [], ◌∷◌, length, take, drop, get_or, Some, None, sym, ap, ◌∙◌, subst, arith, take-append-drop}
use Rattle.std.proofs.Math.Nat.{mul-le-mul_left}
use Rattle.std.proofs.Math.Seq.{take-length}
use Rattle.std.specs.Char.{digit_value}
use Rattle.std.specs.List.{fold}
use Rattle.std.proofs.lemmas.Bool.Decides.{nat_tests}
use Rattle.std.proofs.lemmas.List.Sums.{fold-append, fold_more}
use Rattle.usuba_tokens.specs.Numbers.{value_in, below_2_64}

abbrev step : ℕ → ℕ → ℕ → ℕ
step base n digit = n * base + digit_value digit

grows_by : (n base digit more : ℕ) → 0 < base → n * base + digit ≤ more → n ≤ more
grows_by n base digit more some held =
    let one : 1 ≤ base = omega arith in
    omega (arith, mul-le-mul_left n one)

grows : (base n : ℕ) (digits : List ℕ) → 0 < base → n ≤ fold (step base) n digits
grows base n [] some = omega arith
grows base n (d ∷ ds) some = grows_by n base (digit_value d) _ some (grows base (step base n d) ds some)

pub value_in-take : (base : ℕ) (digits : List ℕ) (k : ℕ) → 0 < base → value_in base (take k digits) ≤ value_in base digits
value_in-take base digits k some =
    let total : fold (step base) (value_in base (take k digits)) (drop k digits) ≡ value_in base digits = sym (fold-append (step base) 0 (take k digits) (drop k digits)) ∙ ap (value_in base) (take-append-drop k digits) in
    subst (λ n. value_in base (take k digits) ≤ n) total (grows base (value_in base (take k digits)) (drop k digits) some)

-- the value with one digit more
pub value_in_more : (base : ℕ) (digits : List ℕ) (k : ℕ) → k < length digits → value_in base (take (k + 1) digits) ≡ value_in base (take k digits) * base + digit_value (get_or digits k 0)
value_in_more base digits k within = fold_more (step base) 0 digits k 0 within

-- a number that is too big has no value
pub too_big : (n : ℕ) → 2 ^ 64 ≤ n → below_2_64 n ≡ None
too_big n big = grind (arith, nat_tests)

pub small : (n : ℕ) → n < 2 ^ 64 → below_2_64 n ≡ Some n
small n fits = grind (arith, nat_tests)

reaches : (front next whole : ℕ) → front ≡ next → (next < 2 ^ 64 → ⊥) → front ≤ whole → 2 ^ 64 ≤ whole
reaches front next whole is over within = omega arith

-- where the next digit is too much, the whole is
pub overflows : (base : ℕ) (digits : List ℕ) (k value : ℕ) → 0 < base → k < length digits → value ≡ value_in base (take k digits) → (value * base + digit_value (get_or digits k 0) < 2 ^ 64 → ⊥) → below_2_64 (value_in base digits) ≡ None
overflows base digits k value some within so_far over =
    let more : value_in base (take (k + 1) digits) ≡ value * base + digit_value (get_or digits k 0) = value_in_more base digits k within ∙ ap (λ v. v * base + digit_value (get_or digits k 0)) (sym so_far) in
    too_big (value_in base digits) (reaches _ _ _ more over (value_in-take base digits (k + 1) some))

-- the value of all digits
pub settled : (base : ℕ) (digits : List ℕ) (k value : ℕ) → k ≤ length digits → length digits ≤ k → value < 2 ^ 64 → value ≡ value_in base (take k digits) → Some value ≡ below_2_64 (value_in base digits)
settled base digits k value within all fits so_far =
    let end : k ≡ length digits = omega arith in
    let whole : value ≡ value_in base digits = so_far ∙ ap (value_in base) (ap (λ i. take i digits) end ∙ take-length digits) in
    sym (ap below_2_64 (sym whole) ∙ small value fits)
