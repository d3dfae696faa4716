-- The polynomials of a table are the table.
use Rattle.std.proofs.Common.{◌≡◌, ℕ, ◌+◌, ◌-◌, ◌*◌, ◌^◌, ◌<◌, ◌≤◌, zero, suc, Bool, true, false, eqb, List, [], ◌∷◌, length, refl, sym, ap, ap₂, ◌∙◌, subst, inl, inr, pow-suc, pow_pos, arith}
use Rattle.std.specs.Prelude.{All, if◌then◌else◌}
use Rattle.std.specs.Int.{bit_at}
use Rattle.std.proofs.lemmas.Bool.{cases_lt}
use Rattle.std.proofs.lemmas.List.Elements.{All-head, All-tail}
use Rattle.std.proofs.lemmas.Nat.Bits.{bit_at_above, bit_at_cat_high, bit_at_cat_low}
use Rattle.usuba_model.specs.Meaning.{number_of_bits}
use Rattle.table_anf.specs.Coefficients.{contains, contained, output_bit, coefficient}
use Rattle.table_anf.specs.TableLaws.{IsBit, bit_product, monomial_value, PolynomialIsTable}
use Rattle.table_anf.specs.TableTerms.{factors}
use Rattle.table_anf.proofs.Xors.{xor_below-same}
use Rattle.table_anf.proofs.Containment.{contains-low, contains-both, contains-high}
use Rattle.table_anf.proofs.Moebius.{xor_contained-twice}

-- ---- the number that bits make

pub number_of_bits-after : (before : ℕ) (bits : List ℕ) → number_of_bits before bits ≡ before * 2 ^ length bits + number_of_bits 0 bits
number_of_bits-after before [] = let e : before ≡ before * 2 ^ 0 + 0 = omega arith in e
number_of_bits-after before (b ∷ bits) =
    let p = pow-suc 2 (length bits) in
    let pb : before * 2 ^ suc (length bits) ≡ before * (2 ^ length bits * 2) = ap (λ k. before * k) p in
    let whole = number_of_bits-after (before * 2 + b) bits in
    let alone = number_of_bits-after (0 * 2 + b) bits in
    let e : (before * 2 + b) * 2 ^ length bits + number_of_bits 0 bits
    ≡ before * 2 ^ suc (length bits) + ((0 * 2 + b) * 2 ^ length bits + number_of_bits 0 bits) = omega arith in
    whole ∙ e ∙ ap (λ x. before * 2 ^ suc (length bits) + x) (sym alone)

-- the first bit is the most significant one
pub number_of_bits-first : (b : ℕ) (bits : List ℕ) → number_of_bits 0 (b ∷ bits) ≡ b * 2 ^ length bits + number_of_bits 0 bits
number_of_bits-first b bits =
    let e : (0 * 2 + b) * 2 ^ length bits + number_of_bits 0 bits ≡ b * 2 ^ length bits + number_of_bits 0 bits = omega arith in
    number_of_bits-after (0 * 2 + b) bits ∙ e

-- n bits make an index of n bits
pub number_of_bits-lt : (bits : List ℕ) → All IsBit bits → number_of_bits 0 bits < 2 ^ length bits
number_of_bits-lt [] all = omega arith
number_of_bits-lt (zero ∷ bits) all =
    let p = pow-suc 2 (length bits) in
    let first = number_of_bits-first 0 bits in
    let rest = number_of_bits-lt bits (All-tail IsBit 0 bits all) in
    omega arith
number_of_bits-lt (suc zero ∷ bits) all =
    let p = pow-suc 2 (length bits) in
    let first = number_of_bits-first 1 bits in
    let rest = number_of_bits-lt bits (All-tail IsBit 1 bits all) in
    omega arith
number_of_bits-lt (suc (suc b) ∷ bits) all = let h : suc (suc b) < 2 = All-head IsBit (suc (suc b)) bits all in absurd (omega arith)

-- ---- the product of the bits of a monomial

factor_where : {V : Type 0} (b c : Bool) (x : V) (xs ys : List V) → b ≡ c → xs ≡ ys → (if b then x ∷ xs else xs) ≡ (if c then x ∷ ys else ys)
factor_where b c x xs ys e s = ap₂ (λ d zs. if d then x ∷ zs else zs) e s

-- a bit above all elements counts for nothing
pub factors-above : {V : Type 0} (elements : List V) (k u : ℕ) → length elements ≤ k → factors elements (2 ^ k + u) ≡ factors elements u
factors-above [] k u h = refl
factors-above (x ∷ elements) k u h =
    let e : 1 * 2 ^ k + u ≡ 2 ^ k + u = omega arith in
    let i = length elements in
    factor_where (eqb (bit_at (2 ^ k + u) i) 1) (eqb (bit_at u i) 1) x (factors elements (2 ^ k + u)) (factors elements u)
    (ap (λ b. eqb b 1) (sym (ap (λ y. bit_at y i) e) ∙ bit_at_cat_low 1 k u i (omega arith)))
    (factors-above elements k u (omega arith))

-- the first element is no factor
pub factors-without : {V : Type 0} (x : V) (elements : List V) (u : ℕ) → u < 2 ^ length elements → factors (x ∷ elements) u ≡ factors elements u
factors-without x elements u h =
    ap (λ b. if eqb b 1 then x ∷ factors elements u else factors elements u) (bit_at_above u (length elements) (length elements) h (omega arith))

-- the first element is a factor
pub factors-with : {V : Type 0} (x : V) (elements : List V) (v : ℕ) → v < 2 ^ length elements
    → factors (x ∷ elements) (2 ^ length elements + v) ≡ x ∷ factors elements v
factors-with x elements v h =
    let k = length elements in
    let e : 1 * 2 ^ k + v ≡ 2 ^ k + v = omega arith in
    let none : k - k ≡ 0 = omega arith in
    let top : bit_at (2 ^ k + v) k ≡ 1 =
    sym (ap (λ y. bit_at y k) e) ∙ bit_at_cat_high 1 k v k h (omega arith) ∙ ap (bit_at 1) none in
    ap (λ b. if eqb b 1 then x ∷ factors elements (2 ^ k + v) else factors elements (2 ^ k + v)) top
    ∙ ap (λ zs. x ∷ zs) (factors-above elements k v (omega arith))

-- no bit, no factor
pub factors-none : {V : Type 0} (elements : List V) → factors elements 0 ≡ []
factors-none [] = refl
factors-none (x ∷ elements) = factors-without x elements 0 (pow_pos (length elements)) ∙ factors-none elements

abbrev one_where : Bool → ℕ
one_where b = if b then 1 else 0

-- ---- the first bit is 0 or 1, and the monomial has it or not

module _ (bits : List ℕ) (all : All IsBit bits) where
  abbrev k : ℕ
  k = length bits

  abbrev index : ℕ
  index = number_of_bits 0 bits

  unset_index : number_of_bits 0 (0 ∷ bits) ≡ index
  unset_index = let e : 0 * 2 ^ k + index ≡ index = omega arith in number_of_bits-first 0 bits ∙ e

  set_index : number_of_bits 0 (1 ∷ bits) ≡ 2 ^ k + index
  set_index = let e : 1 * 2 ^ k + index ≡ 2 ^ k + index = omega arith in number_of_bits-first 1 bits ∙ e

  unset_without : (u : ℕ) → u < 2 ^ k → bit_product (factors bits u) ≡ one_where (contains index u)
      → bit_product (factors (0 ∷ bits) u) ≡ one_where (contains (number_of_bits 0 (0 ∷ bits)) u)
  unset_without u h rest =
      ap bit_product (factors-without 0 bits u h) ∙ rest ∙ ap (λ i. one_where (contains i u)) (sym unset_index)

  set_without : (u : ℕ) → u < 2 ^ k → bit_product (factors bits u) ≡ one_where (contains index u)
      → bit_product (factors (1 ∷ bits) u) ≡ one_where (contains (number_of_bits 0 (1 ∷ bits)) u)
  set_without u h rest =
      ap bit_product (factors-without 1 bits u h)
      ∙ rest
      ∙ sym (ap (λ i. one_where (contains i u)) set_index ∙ ap one_where (contains-low k index u (number_of_bits-lt bits all) h))

  unset_with : (v : ℕ) → v < 2 ^ k → bit_product (factors (0 ∷ bits) (2 ^ k + v)) ≡ one_where (contains (number_of_bits 0 (0 ∷ bits)) (2 ^ k + v))
  unset_with v h =
      let gone : 0 * bit_product (factors bits v) ≡ 0 = omega arith in
      ap bit_product (factors-with 0 bits v h)
      ∙ gone
      ∙ sym (ap (λ i. one_where (contains i (2 ^ k + v))) unset_index ∙ ap one_where (contains-high k index v (number_of_bits-lt bits all)))

  set_with : (v : ℕ) → v < 2 ^ k → bit_product (factors bits v) ≡ one_where (contains index v)
      → bit_product (factors (1 ∷ bits) (2 ^ k + v)) ≡ one_where (contains (number_of_bits 0 (1 ∷ bits)) (2 ^ k + v))
  set_with v h rest =
      let same : 1 * bit_product (factors bits v) ≡ bit_product (factors bits v) = omega arith in
      ap bit_product (factors-with 1 bits v h)
      ∙ same
      ∙ rest
      ∙ sym (ap (λ i. one_where (contains i (2 ^ k + v))) set_index ∙ ap one_where (contains-both k index v (number_of_bits-lt bits all) h))

-- the product is 1 exactly where the index that the bits make contains the monomial
pub bit_product-is : (bits : List ℕ) (u : ℕ) → All IsBit bits → u < 2 ^ length bits
    → bit_product (factors bits u) ≡ (if contains (number_of_bits 0 bits) u then 1 else 0)
bit_product-is [] u all h =
    let e : 0 ≡ u = omega arith in
    let P : ℕ → Type 0 = λ x. 1 ≡ one_where (contains 0 x) in
    subst P e refl
bit_product-is (zero ∷ bits) u all h =
    let rest = All-tail IsBit 0 bits all in
    let p = pow-suc 2 (length bits) in
    elim (cases_lt u (2 ^ length bits)) [
      | inl lt ↦ unset_without bits rest u lt (bit_product-is bits u rest lt)
      | inr ge ↦
          let e : 2 ^ length bits + (u - 2 ^ length bits) ≡ u = omega arith in
          let P : ℕ → Type 0 = λ x. bit_product (factors (0 ∷ bits) x) ≡ one_where (contains (number_of_bits 0 (0 ∷ bits)) x) in
          subst P e (unset_with bits rest (u - 2 ^ length bits) (omega arith))
    ]
bit_product-is (suc zero ∷ bits) u all h =
    let rest = All-tail IsBit 1 bits all in
    let p = pow-suc 2 (length bits) in
    elim (cases_lt u (2 ^ length bits)) [
      | inl lt ↦ set_without bits rest u lt (bit_product-is bits u rest lt)
      | inr ge ↦
          let e : 2 ^ length bits + (u - 2 ^ length bits) ≡ u = omega arith in
          let hv : u - 2 ^ length bits < 2 ^ length bits = omega arith in
          let P : ℕ → Type 0 = λ x. bit_product (factors (1 ∷ bits) x) ≡ one_where (contains (number_of_bits 0 (1 ∷ bits)) x) in
          subst P e (set_with bits rest (u - 2 ^ length bits) hv (bit_product-is bits (u - 2 ^ length bits) rest hv))
    ]
bit_product-is (suc (suc b) ∷ bits) u all h = let wrong : suc (suc b) < 2 = All-head IsBit (suc (suc b)) bits all in absurd (omega arith)

-- ---- the polynomial

times_where : (b : Bool) (c : ℕ) → c * (if b then 1 else 0) ≡ (if b then c else 0)
times_where true c = omega arith
times_where false c = omega arith

pub polynomial_is_table : PolynomialIsTable
polynomial_is_table m entries j bits all =
    let n = length bits in
    let index = number_of_bits 0 bits in
    let given : ℕ → ℕ = coefficient n m entries j in
    xor_below-same (monomial_value m entries j bits) (contained given index) (2 ^ n)
    (λ u h. ap (λ x. given u * x) (bit_product-is bits u all h) ∙ times_where (contains index u) (given u))
    ∙ xor_contained-twice n (output_bit m entries j) index (number_of_bits-lt bits all)
