-- Products and sums that stop at a greatest number.
use Rattle.std.proofs.Common.{◌≡◌, sym, ap, ◌∙◌, ℕ, zero, suc, ◌+◌, ◌*◌, ◌<◌, ◌≤◌, min, List, [], ◌∷◌, ◌++◌, inl, inr, arith, mul_assoc, mul-zero, le-mul_of_pos_right, zero-lt-suc, one-mul, mul-one}
use Rattle.std.proofs.lemmas.Bool.{cases_lt}
use Rattle.usuba_model.specs.Shapes.{product}

-- a product that was stopped is stopped again, unless a factor is 0
pub capped-product : (a b m : ℕ) → min (min a m * b) m ≡ min (a * b) m
capped-product a b m =
    elim (cases_lt m a) [
      | inr below ↦ ap (λ x. min (x * b) m) (omega (arith, below))
      | inl above ↦ ap (λ x. min (x * b) m) (omega (arith, above)) ∙ stopped above b
    ]
  where
    stopped : m < a → (b : ℕ) → min (m * b) m ≡ min (a * b) m
    stopped above zero = ap (λ x. min x m) (mul-zero m ∙ sym (mul-zero a))
    stopped above (suc b) =
        let left : m ≤ m * suc b = le-mul_of_pos_right m (zero-lt-suc b) in
        let right : a ≤ a * suc b = le-mul_of_pos_right a (zero-lt-suc b) in
        omega (arith, left, right, above)

-- one more factor of a product
pub product-step : (before size after rest m whole : ℕ) → after ≡ min (before * size) m → min (before * (size * rest)) m ≡ whole
    → min (after * rest) m ≡ whole
product-step before size after rest m whole is same =
    ap (λ x. min (x * rest) m) is
    ∙ capped-product (before * size) rest m
    ∙ ap (λ x. min x m) (mul_assoc before size rest)
    ∙ same

-- one more summand of a sum
pub sum-step : (before size after rest m whole : ℕ) → after ≡ min (before + min size m) m → min (before + (size + rest)) m ≡ whole
    → min (after + rest) m ≡ whole
sum-step before size after rest m whole is same = omega (arith, is, same)

-- the product of two lists
pub product-append : (xs ys : List ℕ) → product (xs ++ ys) ≡ product xs * product ys
product-append [] ys = sym (one-mul (product ys))
product-append (x ∷ xs) ys = ap (λ n. x * n) (product-append xs ys) ∙ sym (mul_assoc x (product xs) (product ys))

-- a type with a count
pub counted : (dims : List ℕ) (count before after m : ℕ) → before ≡ min (product dims) m → after ≡ min (before * count) m
    → after ≡ min (product (dims ++ count ∷ [])) m
counted dims count before after m before_is after_is =
    after_is
    ∙ ap (λ n. min (n * count) m) before_is
    ∙ capped-product (product dims) count m
    ∙ ap (λ n. min (product dims * n) m) (sym (mul-one count))
    ∙ ap (λ n. min n m) (sym (product-append dims (count ∷ [])))

-- a product whose factors were all taken
pub product-end : (sizes rest : List ℕ) (so_far m : ℕ) → rest ≡ [] → so_far ≤ m → min (so_far * product rest) m ≡ min (product sizes) m → so_far ≡ min (product sizes) m
product-end sizes rest so_far m ends small same =
    let one : so_far * product rest ≡ so_far = ap (λ l. so_far * product l) ends ∙ mul-one so_far in
    omega (arith, ap (λ n. min n m) one, same, small)
