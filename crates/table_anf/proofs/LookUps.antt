-- The value of a table's terms is the look-up at each bit position.
use Rattle.std.proofs.Common.{◌≡◌, ℕ, ◌+◌, ◌-◌, ◌*◌, ◌/◌, ◌%◌, ◌^◌, ◌<◌, ◌≤◌, zero, suc, Bool, true, false, eqb, List, [], ◌∷◌, length, map, get_or, bit_xor, refl, sym, ap, ap₂, ◌∙◌, arith, pow_pos, mod-eq_of_lt}
use Rattle.std.specs.Prelude.{All, filter, cond, if◌then◌else◌}
use Rattle.std.specs.Int.{bit_at}
use Rattle.std.specs.List.{range_with_len}
use lib.Bits.{xor_comm, xor_zero_r}
use Rattle.std.proofs.lemmas.List.{length-map}
use Rattle.std.proofs.lemmas.List.Elements.{All-cons, All-map}
use Rattle.std.proofs.lemmas.Nat.{mod-pow-add}
use Rattle.std.proofs.lemmas.Nat.Bits.{bit_at-lt, bit_at_ones}
use Rattle.usuba0.specs.Term.{Term, xor_term, ones, bits_of_width}
use Rattle.usuba_model.specs.Meaning.{number_of_bits, entry_at, word_of_bits}
use Rattle.table_anf.specs.Coefficients.{xor_below, output_bit, coefficient}
use Rattle.table_anf.specs.TableLaws.{IsBit, bit_product, word_of, FitsWidth, IsLookUp, TermsAreLookUps}
use Rattle.table_anf.specs.TableTerms.{factors, left_fold, monomial, is_present, monomials_of, complemented, table_term}
use Rattle.table_anf.proofs.Xors.{bit_of_xor, xor_below-first, xor_below-same}
use Rattle.table_anf.proofs.Coefficients.{coefficient-lt}
use Rattle.table_anf.proofs.Polynomials.{factors-none, polynomial_is_table}
use Rattle.table_anf.proofs.Values.{not_term-makes}
use Rattle.table_anf.proofs.Monomials.{HasBit, bit_of, xor_all, given_where, factors-map, All-factors, factors-some, product_bit, sum_bit, xor_all-filter}

-- ---- a word from its bits

bits_below : (n x : ℕ) → word_of_bits n (λ p. bit_at x p) ≡ x % 2 ^ n
bits_below zero x = omega arith
bits_below (suc n) x =
    let one : suc n ≡ 1 + n = omega arith in
    let e : x % 2 ^ (1 + n) ≡ x / 2 ^ n % 2 * 2 ^ n + x % 2 ^ n = mod-pow-add x 1 n in
    let rest = bits_below n x in
    let whole : word_of_bits n (λ p. bit_at x p) + x / 2 ^ n % 2 * 2 ^ n ≡ x % 2 ^ (1 + n) = omega arith in
    whole ∙ ap (λ k. x % 2 ^ k) (sym one)

word_of_bits-same : (n : ℕ) (f g : ℕ → ℕ) → ((p : ℕ) → p < n → f p ≡ g p) → word_of_bits n f ≡ word_of_bits n g
word_of_bits-same zero f g same = refl
word_of_bits-same (suc n) f g same =
    ap₂ (λ x b. x + b * 2 ^ n) (word_of_bits-same n f g (λ p h. same p (omega arith))) (same n (omega arith))

-- a word of n bits is made of its bits
word_from_bits : (n x : ℕ) (f : ℕ → ℕ) → x < 2 ^ n → ((p : ℕ) → p < n → bit_at x p ≡ f p) → x ≡ word_of_bits n f
word_from_bits n x f h same = sym (mod-eq_of_lt h) ∙ sym (bits_below n x) ∙ word_of_bits-same n (λ p. bit_at x p) f same

-- ---- one bit of a table's term

map-map : {A B C : Type 0} (g : B → C) (f : A → B) (xs : List A) → map g (map f xs) ≡ map (λ x. g (f x)) xs
map-map g f [] = refl
map-map g f (x ∷ xs) = ap (λ ys. g (f x) ∷ ys) (map-map g f xs)

-- the same is given for all numbers of a range that pass
given_same : (test : ℕ → Bool) (f g : ℕ → ℕ) (k : ℕ) → f k ≡ g k → given_where test f k ≡ given_where test g k
given_same test f g k e = ap (λ x. if test k then x else 0) e

-- a coefficient times a number: the number where the coefficient is 1
times_bit : (c x : ℕ) → c < 2 → (if eqb c 1 then x else 0) ≡ c * x
times_bit zero x h = omega arith
times_bit (suc zero) x h = omega arith
times_bit (suc (suc c)) x h = absurd (omega arith)

bit_where : (c : ℕ) → c < 2 → (if eqb c 1 then 1 else 0) ≡ c
bit_where zero h = refl
bit_where (suc zero) h = refl
bit_where (suc (suc c)) h = absurd (omega arith)

module _ (w m : ℕ) (entries inputs : List ℕ) (args : List Term) (j : ℕ) (all : All (FitsWidth w inputs) args) where
  abbrev n : ℕ
  n = length args

  abbrev given : ℕ → ℕ
  given = coefficient n m entries j

  abbrev Fits : Term → Type 0
  Fits t = FitsWidth w inputs t

  -- the bits of the arguments at a position
  abbrev bits : ℕ → List ℕ
  bits p = map (bit_of w inputs p) args

  are_bits : (p : ℕ) → All IsBit (bits p)
  are_bits p = All-map IsBit (bit_of w inputs p) args (λ k d h. bit_at-lt (word_of w inputs (get_or args k d)) p)

  monomial_bit : (p u : ℕ) → 0 < u → u < 2 ^ n → HasBit w inputs p (monomial args u) (bit_product (factors (bits p) u))
  monomial_bit p u h k =
      let made = product_bit w inputs p (factors args u) (factors-some args u h k) (All-factors Fits args u all) in
      record { fits = made.fits; bit = made.bit ∙ ap bit_product (sym (factors-map (bit_of w inputs p) args u)) }

  -- the monomials of a range that pass, from 1 upwards
  range_fits : (p : ℕ) (test : ℕ → Bool) (a k : ℕ) → 0 < a → a + k ≤ 2 ^ n → All Fits (map (monomial args) (filter test (range_with_len a k)))
  range_fits p test a zero h le = λ i d l. absurd (omega arith)
  range_fits p test a (suc k) h le =
      fits_where (test a) (filter test (range_with_len (a + 1) k)) (monomial_bit p a h (omega arith)).fits
      (range_fits p test (a + 1) k (omega arith) (omega arith))
    where
      fits_where : (b : Bool) (rest : List ℕ) → Fits (monomial args a) → All Fits (map (monomial args) rest)
          → All Fits (map (monomial args) (cond b (a ∷ rest) rest))
      fits_where true rest here others = All-cons Fits (monomial args a) (map (monomial args) rest) here others
      fits_where false rest here others = others

  abbrev sum : Term
  sum = left_fold xor_term (map (monomial args) (monomials_of n m entries j))

  some_index : 2 ^ n ≡ suc (2 ^ n - 1)
  some_index = let p = pow_pos n in omega arith

  -- the exclusive-or of the monomials from 1 upwards
  abbrev later : ℕ → ℕ
  later p = xor_below (λ k. given (1 + k) * bit_product (factors (bits p) (1 + k))) (2 ^ n - 1)

  sum-bit : (p : ℕ) → HasBit w inputs p sum (later p)
  sum-bit p =
      let made = sum_bit w inputs p (map (monomial args) (monomials_of n m entries j))
      (range_fits p (is_present n m entries j) 1 (2 ^ n - 1) (omega arith) (omega (arith, some_index))) in
      let test = is_present n m entries j in
      let value_bit : ℕ → ℕ = λ u. bit_of w inputs p (monomial args u) in
      let numbers = monomials_of n m entries j in
      record {
        fits = made.fits;
        bit =
            made.bit
            ∙ ap xor_all (map-map (bit_of w inputs p) (monomial args) numbers)
            ∙ xor_all-filter test value_bit 1 (2 ^ n - 1)
            ∙ xor_below-same (λ k. given_where test value_bit (1 + k)) (λ k. given (1 + k) * bit_product (factors (bits p) (1 + k))) (2 ^ n - 1)
            (λ k h.
            given_same test value_bit (λ u. bit_product (factors (bits p) u)) (1 + k)
            (monomial_bit p (1 + k) (omega arith) (omega (arith, some_index))).bit
            ∙ times_bit (given (1 + k)) (bit_product (factors (bits p) (1 + k))) (coefficient-lt n m entries j (1 + k)));
      }

  -- the exclusive-or of all monomials is the polynomial, and so the table
  polynomial-bit : (p : ℕ) → bit_xor (later p) (given 0) ≡ output_bit m entries j (number_of_bits 0 (bits p))
  polynomial-bit p =
      let mono : ℕ → ℕ → ℕ = λ k u. coefficient k m entries j u * bit_product (factors (bits p) u) in
      let long : length (bits p) ≡ n = length-map args (bit_of w inputs p) in
      let first : mono n 0 ≡ given 0 = ap (λ fs. given 0 * bit_product fs) (factors-none (bits p)) ∙ (let e : given 0 * 1 ≡ given 0 = omega arith in e) in
      xor_comm (later p) (given 0)
      ∙ ap (λ x. bit_xor x (later p)) (sym first)
      ∙ sym (xor_below-first (mono n) (2 ^ n - 1))
      ∙ ap (xor_below (mono n)) (sym some_index)
      ∙ ap (λ k. xor_below (mono k) (2 ^ k)) (sym long)
      ∙ polynomial_is_table m entries j (bits p) (are_bits p)

  complement_bit : (p : ℕ) (b : Bool) (t : Term) (bit : ℕ) → p < bits_of_width w → HasBit w inputs p t bit
      → HasBit w inputs p (complemented w b t) (bit_xor bit (if b then 1 else 0))
  complement_bit p true t bit h has =
      let made = not_term-makes w inputs t has.fits in
      record {
        fits = made.fits;
        bit =
            ap (λ x. bit_at x p) made.same
            ∙ bit_of_xor (word_of w inputs t) (ones (bits_of_width w)) p
            ∙ ap₂ bit_xor has.bit (bit_at_ones (bits_of_width w) p h);
      }
  complement_bit p false t bit h has = record { fits = has.fits; bit = has.bit ∙ sym (xor_zero_r bit) }

  term-bit : (p : ℕ) → p < bits_of_width w
      → bit_of w inputs p (table_term w m entries args j) ≡ output_bit m entries j (number_of_bits 0 (bits p))
  term-bit p h =
      (complement_bit p (is_present n m entries j 0) sum (later p) h (sum-bit p)).bit
      ∙ ap (bit_xor (later p)) (bit_where (given 0) (coefficient-lt n m entries j 0))
      ∙ polynomial-bit p

  term-fits : Fits (table_term w m entries args j)
  term-fits = fits_where (is_present n m entries j 0)
    where
      fits_where : (b : Bool) → Fits (complemented w b sum)
      fits_where true = (not_term-makes w inputs sum (sum-bit 0).fits).fits
      fits_where false = (sum-bit 0).fits

  is_look_up : IsLookUp w m entries inputs args j
  is_look_up = record {
    fits = term-fits;
    same =
        word_from_bits (bits_of_width w) (word_of w inputs (table_term w m entries args j))
        (λ p. bit_at (entry_at entries (map (word_of w inputs) args) p) (m - 1 - j)) term-fits.word
        (λ p h.
        term-bit p h
        ∙ ap (λ bs. output_bit m entries j (number_of_bits 0 bs)) (sym (map-map (λ word. bit_at word p) (word_of w inputs) args)));
  }

pub terms_are_look_ups : TermsAreLookUps
terms_are_look_ups w m entries inputs args j all = is_look_up w m entries inputs args j all
