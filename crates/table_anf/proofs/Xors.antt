-- Exclusive-ors of what is given for numbers.
use Rattle.std.proofs.Common.{◌≡◌, ℕ, ◌+◌, ◌%◌, ◌<◌, zero, suc, bit_xor, refl, sym, ap, ap₂, ◌∙◌, add-zero, add-suc, arith}
use Rattle.std.specs.Int.{bit_at}
use lib.Bits.{xor_assoc, xor_comm, xor_self, xor_zero_l, xor_zero_r}
use Rattle.std.proofs.lemmas.Nat.Bits.{bit_at-zero, bit_at-lt, bit_at_xor}
use Rattle.table_anf.specs.Coefficients.{xor_below}

-- of four numbers the middle two may be exchanged
pub xor_four : (a b c d : ℕ) → bit_xor (bit_xor a b) (bit_xor c d) ≡ bit_xor (bit_xor a c) (bit_xor b d)
xor_four a b c d =
    xor_assoc a b (bit_xor c d)
    ∙ ap (bit_xor a) (sym (xor_assoc b c d) ∙ ap (λ x. bit_xor x d) (xor_comm b c) ∙ xor_assoc c b d)
    ∙ sym (xor_assoc a c (bit_xor b d))

-- what is added twice is gone
pub xor_twice : (a b : ℕ) → bit_xor a (bit_xor a b) ≡ b
xor_twice a b = sym (xor_assoc a a b) ∙ ap (λ x. bit_xor x b) (xor_self a) ∙ xor_zero_l b

-- the same is given below n
pub xor_below-same : (f g : ℕ → ℕ) (n : ℕ) → ((k : ℕ) → k < n → f k ≡ g k) → xor_below f n ≡ xor_below g n
xor_below-same f g zero same = refl
xor_below-same f g (suc n) same =
    ap₂ bit_xor (xor_below-same f g n (λ k h. same k (omega arith))) (same n (omega arith))

-- 0 is given below n
pub xor_below-none : (f : ℕ → ℕ) (n : ℕ) → ((k : ℕ) → k < n → f k ≡ 0) → xor_below f n ≡ 0
xor_below-none f zero none = refl
xor_below-none f (suc n) none =
    ap₂ bit_xor (xor_below-none f n (λ k h. none k (omega arith))) (none n (omega arith))

-- the exclusive-or of what two give
pub xor_below-xor : (f g : ℕ → ℕ) (n : ℕ) → xor_below (λ k. bit_xor (f k) (g k)) n ≡ bit_xor (xor_below f n) (xor_below g n)
xor_below-xor f g zero = refl
xor_below-xor f g (suc n) =
    ap (λ x. bit_xor x (bit_xor (f n) (g n))) (xor_below-xor f g n)
    ∙ xor_four (xor_below f n) (xor_below g n) (f n) (g n)

-- the numbers below m, and then n more
pub xor_below-add : (f : ℕ → ℕ) (m n : ℕ) → xor_below f (m + n) ≡ bit_xor (xor_below f m) (xor_below (λ k. f (m + k)) n)
xor_below-add f m zero = ap (xor_below f) (add-zero m) ∙ sym (xor_zero_r (xor_below f m))
xor_below-add f m (suc n) =
    ap (xor_below f) (add-suc m n)
    ∙ ap (λ x. bit_xor x (f (m + n))) (xor_below-add f m n)
    ∙ xor_assoc (xor_below f m) (xor_below (λ k. f (m + k)) n) (f (m + n))

-- the first number, and then n more
pub xor_below-first : (f : ℕ → ℕ) (n : ℕ) → xor_below f (suc n) ≡ bit_xor (f 0) (xor_below (λ k. f (1 + k)) n)
xor_below-first f n =
    let e : suc n ≡ 1 + n = omega arith in
    ap (xor_below f) e ∙ xor_below-add f 1 n ∙ ap (λ x. bit_xor x (xor_below (λ k. f (1 + k)) n)) (xor_zero_l (f 0))

odd_sum : (x y : ℕ) → x < 2 → y < 2 → (x + y) % 2 ≡ bit_xor x y
odd_sum zero zero h k = refl
odd_sum zero (suc zero) h k = refl
odd_sum (suc zero) zero h k = refl
odd_sum (suc zero) (suc zero) h k = refl
odd_sum (suc (suc x)) y h k = absurd (omega arith)
odd_sum zero (suc (suc y)) h k = absurd (omega arith)
odd_sum (suc zero) (suc (suc y)) h k = absurd (omega arith)

-- a bit of an exclusive-or
pub bit_of_xor : (a b p : ℕ) → bit_at (bit_xor a b) p ≡ bit_xor (bit_at a p) (bit_at b p)
bit_of_xor a b p = bit_at_xor a b p ∙ odd_sum (bit_at a p) (bit_at b p) (bit_at-lt a p) (bit_at-lt b p)

-- a bit of the exclusive-or of what is given
pub bit_of_xor_below : (f : ℕ → ℕ) (n p : ℕ) → bit_at (xor_below f n) p ≡ xor_below (λ k. bit_at (f k) p) n
bit_of_xor_below f zero p = bit_at-zero p
bit_of_xor_below f (suc n) p =
    bit_of_xor (xor_below f n) (f n) p ∙ ap (λ x. bit_xor x (bit_at (f n) p)) (bit_of_xor_below f n p)
