-- The bits of the values of monomials and of their sums.
use Rattle.std.proofs.Common.{◌≡◌, ℕ, ◌+◌, ◌-◌, ◌*◌, ◌^◌, ◌<◌, zero, suc, min, Bool, true, false, eqb, List, [], ◌∷◌, length, map, bit_and, bit_xor, refl, sym, ap, ap₂, ◌∙◌, inl, inr, arith, pow-suc, pow_pos}
use Rattle.std.specs.Prelude.{All, fold, filter, cond, if◌then◌else◌}
use Rattle.std.specs.Int.{bit_at}
use Rattle.std.specs.List.{range_with_len}
use lib.Bits.{xor_assoc, xor_zero_l, xor_zero_r}
use Rattle.std.proofs.lemmas.Bool.{cases_lt}
use Rattle.std.proofs.lemmas.List.Elements.{All-head, All-tail, All-cons}
use Rattle.std.proofs.lemmas.Nat.Bits.{bit_at_and, bit_at-lt, bit_at-zero}
use Rattle.usuba0.specs.Term.{Term, xor_term, and_term}
use Rattle.table_anf.specs.Coefficients.{xor_below}
use Rattle.table_anf.specs.TableLaws.{word_of, FitsWidth, bit_product}
use Rattle.table_anf.specs.TableTerms.{factors, left_fold}
use Rattle.table_anf.proofs.Xors.{bit_of_xor, xor_below-first, xor_below-same}
use Rattle.table_anf.proofs.Polynomials.{factors-with, factors-without}
use Rattle.table_anf.proofs.Values.{const_makes, and_term-makes, xor_term-makes, constant_word-zero}

min_times : (x y : ℕ) → x < 2 → y < 2 → min x y ≡ x * y
min_times zero y h k = omega arith
min_times (suc zero) y h k = omega arith
min_times (suc (suc x)) y h k = absurd (omega arith)

bit_of_and : (a b p : ℕ) → bit_at (bit_and a b) p ≡ bit_at a p * bit_at b p
bit_of_and a b p = bit_at_and a b p ∙ min_times (bit_at a p) (bit_at b p) (bit_at-lt a p) (bit_at-lt b p)

-- the exclusive-or of numbers
abbrev pub xor_all : List ℕ → ℕ
xor_all [] = 0
xor_all (x ∷ xs) = bit_xor x (xor_all xs)

length_mapped : {V W : Type 0} (f : V → W) (xs : List V) → length (map f xs) ≡ length xs
length_mapped f [] = refl
length_mapped f (y ∷ ys) = ap suc (length_mapped f ys)

map_where : {V W : Type 0} (f : V → W) (b : Bool) (x : V) (xs : List V) (ys : List W) → ys ≡ map f xs
    → (if b then f x ∷ ys else ys) ≡ map f (if b then x ∷ xs else xs)
map_where f true x xs ys e = ap (λ zs. f x ∷ zs) e
map_where f false x xs ys e = e

-- the elements of a monomial of what a function makes of elements
pub factors-map : {V W : Type 0} (f : V → W) (elements : List V) (u : ℕ) → factors (map f elements) u ≡ map f (factors elements u)
factors-map f [] u = refl
factors-map f (x ∷ elements) u =
    ap (λ i. if eqb (bit_at u i) 1 then f x ∷ factors (map f elements) u else factors (map f elements) u) (length_mapped f elements)
    ∙ map_where f (eqb (bit_at u (length elements)) 1) x (factors elements u) (factors (map f elements) u) (factors-map f elements u)

All_where : {V : Type 0} (P : V → Type 0) (b : Bool) (x : V) (xs : List V) → P x → All P xs → All P (if b then x ∷ xs else xs)
All_where P true x xs here rest = All-cons P x xs here rest
All_where P false x xs here rest = rest

-- what holds of all elements holds of those of a monomial
pub All-factors : {V : Type 0} (P : V → Type 0) (elements : List V) (u : ℕ) → All P elements → All P (factors elements u)
All-factors P [] u all = all
All-factors P (x ∷ elements) u all =
    All_where P (eqb (bit_at u (length elements)) 1) x (factors elements u) (All-head P x elements all)
    (All-factors P elements u (All-tail P x elements all))

-- a monomial from 1 upwards has an element
pub factors-some : {V : Type 0} (elements : List V) (u : ℕ) → 0 < u → u < 2 ^ length elements → factors elements u ≡ [] → ⊥
factors-some [] u h k e = omega arith
factors-some (x ∷ elements) u h k e =
    let p = pow-suc 2 (length elements) in
    elim (cases_lt u (2 ^ length elements)) as (λ _. ⊥) [
      | inl lt ↦ factors-some elements u h lt (sym (factors-without x elements u lt) ∙ e)
      | inr ge ↦
          let v = u - 2 ^ length elements in
          let hv : v < 2 ^ length elements = omega arith in
          let eu : 2 ^ length elements + v ≡ u = omega arith in
          let there : x ∷ factors elements v ≡ [] = sym (factors-with x elements v hv) ∙ ap (factors (x ∷ elements)) eu ∙ e in
          cc
    ]

-- what terms are to be: they fit, and have this bit
pub record HasBit (w : ℕ) (inputs : List ℕ) (p : ℕ) (t : Term) (b : ℕ) : Type 0 where
  pub fits : FitsWidth w inputs t
  pub bit : bit_at (word_of w inputs t) p ≡ b

module _ (w : ℕ) (inputs : List ℕ) (p : ℕ) where
  -- the bit of a term's value
  abbrev pub bit_of : Term → ℕ
  bit_of t = bit_at (word_of w inputs t) p

  abbrev Fits : Term → Type 0
  Fits t = FitsWidth w inputs t

  fold_and : (t : Term) (ts : List Term) → Fits t → All Fits ts
      → HasBit w inputs p (fold and_term t ts) (bit_of t * bit_product (map bit_of ts))
  fold_and t [] fits all = record { fits = fits; bit = let e : bit_of t ≡ bit_of t * 1 = omega arith in e }
  fold_and t (a ∷ ts) fits all =
      let fa : Fits a = All-head Fits a ts all in
      let made = and_term-makes w inputs t a fits fa in
      let rest = fold_and (and_term t a) ts made.fits (All-tail Fits a ts all) in
      let b : bit_of (and_term t a) ≡ bit_of t * bit_of a = ap (λ x. bit_at x p) made.same ∙ bit_of_and (word_of w inputs t) (word_of w inputs a) p in
      let e : bit_of t * bit_of a * bit_product (map bit_of ts) ≡ bit_of t * (bit_of a * bit_product (map bit_of ts)) = omega arith in
      record { fits = rest.fits; bit = rest.bit ∙ ap (λ x. x * bit_product (map bit_of ts)) b ∙ e }

  -- the bit of a product of terms is the product of their bits
  pub product_bit : (ts : List Term) → (ts ≡ [] → ⊥) → All Fits ts → HasBit w inputs p (left_fold and_term ts) (bit_product (map bit_of ts))
  product_bit [] some all = absurd (some refl)
  product_bit (t ∷ ts) some all = fold_and t ts (All-head Fits t ts all) (All-tail Fits t ts all)

  fold_xor : (t : Term) (ts : List Term) → Fits t → All Fits ts
      → HasBit w inputs p (fold xor_term t ts) (bit_xor (bit_of t) (xor_all (map bit_of ts)))
  fold_xor t [] fits all = record { fits = fits; bit = sym (xor_zero_r (bit_of t)) }
  fold_xor t (a ∷ ts) fits all =
      let fa : Fits a = All-head Fits a ts all in
      let made = xor_term-makes w inputs t a fits fa in
      let rest = fold_xor (xor_term t a) ts made.fits (All-tail Fits a ts all) in
      let b : bit_of (xor_term t a) ≡ bit_xor (bit_of t) (bit_of a) = ap (λ x. bit_at x p) made.same ∙ bit_of_xor (word_of w inputs t) (word_of w inputs a) p in
      record {
        fits = rest.fits;
        bit = rest.bit ∙ ap (λ x. bit_xor x (xor_all (map bit_of ts))) b ∙ xor_assoc (bit_of t) (bit_of a) (xor_all (map bit_of ts));
      }

  -- the bit of a sum of terms is the exclusive-or of their bits
  pub sum_bit : (ts : List Term) → All Fits ts → HasBit w inputs p (left_fold xor_term ts) (xor_all (map bit_of ts))
  sum_bit [] all = record {
    fits = (const_makes w inputs 0 (pow_pos w)).fits;
    bit = ap (λ x. bit_at x p) (constant_word-zero w) ∙ bit_at-zero p;
  }
  sum_bit (t ∷ ts) all = fold_xor t ts (All-head Fits t ts all) (All-tail Fits t ts all)

xor_filtered : (f : ℕ → ℕ) (b : Bool) (a : ℕ) (rest : List ℕ) (after : ℕ) → xor_all (map f rest) ≡ after
    → xor_all (map f (cond b (a ∷ rest) rest)) ≡ bit_xor (if b then f a else 0) after
xor_filtered f true a rest after e = ap (bit_xor (f a)) e
xor_filtered f false a rest after e = e ∙ sym (xor_zero_l after)

-- what a function gives for the numbers that pass, and 0 for others
abbrev pub given_where : (ℕ → Bool) → (ℕ → ℕ) → ℕ → ℕ
given_where test f k = if test k then f k else 0

-- the exclusive-or of what is given for the numbers of a range that pass
pub xor_all-filter : (test : ℕ → Bool) (f : ℕ → ℕ) (a n : ℕ)
    → xor_all (map f (filter test (range_with_len a n))) ≡ xor_below (λ k. given_where test f (a + k)) n
xor_all-filter test f a zero = refl
xor_all-filter test f a (suc n) =
    let here : a ≡ a + 0 = omega arith in
    let later : (k : ℕ) → a + 1 + k ≡ a + (1 + k) = λ k. omega arith in
    xor_filtered f (test a) a (filter test (range_with_len (a + 1) n)) (xor_below (λ k. given_where test f (a + 1 + k)) n)
    (xor_all-filter test f (a + 1) n)
    ∙ ap₂ bit_xor
    (ap (given_where test f) here)
    (xor_below-same (λ k. given_where test f (a + 1 + k)) (λ k. given_where test f (a + (1 + k))) n
    (λ k h. ap (given_where test f) (later k)))
    ∙ sym (xor_below-first (λ k. given_where test f (a + k)) n)
