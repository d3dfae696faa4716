-- The values of terms that are made by the rules: those of the operations, where the operands fit the width.
use Rattle.std.proofs.Common.{◌≡◌, ℕ, ◌^◌, ◌<◌, zero, suc, Bool, true, false, eqb, List, Option, Some, None, IfSome, bit_and, bit_xor, refl, sym, ap, ap₂, ◌∙◌, subst, arith, eqb-true, pow_pos}
use Rattle.std.specs.Prelude.{if◌then◌else◌, ◌&&◌}
use Rattle.std.proofs.lemmas.Nat.{and_le_l, and_comm, xor_lt}
use Rattle.usuba0.specs.Term.{Term, Input, Const, Xor, Not, Mask, And, Shl, Shr, Rotl, Refresh, constant, ones, folded_two, folded_one, and_by, xor_term, and_term, not_term, word_of_constant, bits_of_width}
use Rattle.table_anf.specs.TableLaws.{word_of, FitsWidth}

-- ---- constants as words

-- the word of a constant of w bits
abbrev pub constant_word : ℕ → ℕ → ℕ
constant_word w c = word_of_constant w (bits_of_width w) c

-- at another width than 1 a constant is itself
itself : (w c : ℕ) → eqb w 1 ≡ false → constant_word w c ≡ c
itself w c e = ap (λ b. if b && eqb c 1 then ones (bits_of_width w) else c) e

own_bits : (w : ℕ) → eqb w 1 ≡ false → bits_of_width w ≡ w
own_bits w e = ap (λ b. if b then 32 else w) e

one_and : (c d : ℕ) → c < 2 → d < 2 → constant_word 1 (bit_and c d) ≡ bit_and (constant_word 1 c) (constant_word 1 d)
one_and zero zero h k = refl
one_and zero (suc zero) h k = refl
one_and (suc zero) zero h k = refl
one_and (suc zero) (suc zero) h k = refl
one_and (suc (suc c)) d h k = absurd (omega arith)
one_and zero (suc (suc d)) h k = absurd (omega arith)
one_and (suc zero) (suc (suc d)) h k = absurd (omega arith)

one_xor : (c d : ℕ) → c < 2 → d < 2 → constant_word 1 (bit_xor c d) ≡ bit_xor (constant_word 1 c) (constant_word 1 d)
one_xor zero zero h k = refl
one_xor zero (suc zero) h k = refl
one_xor (suc zero) zero h k = refl
one_xor (suc zero) (suc zero) h k = refl
one_xor (suc (suc c)) d h k = absurd (omega arith)
one_xor zero (suc (suc d)) h k = absurd (omega arith)
one_xor (suc zero) (suc (suc d)) h k = absurd (omega arith)

one_lt : (c : ℕ) → c < 2 → constant_word 1 c < 2 ^ 32
one_lt zero h = omega arith
one_lt (suc zero) h = omega arith
one_lt (suc (suc c)) h = absurd (omega arith)

plain_two : (f : ℕ → ℕ → ℕ) (w c d : ℕ) → eqb w 1 ≡ false → constant_word w (f c d) ≡ f (constant_word w c) (constant_word w d)
plain_two f w c d e = itself w (f c d) e ∙ sym (ap₂ f (itself w c e) (itself w d e))

by_width : (P : ℕ → Type 0) (w : ℕ) → P 1 → (eqb w 1 ≡ false → P w) → P w
by_width P w one other = at (eqb w 1) refl
  where
    at : (b : Bool) → eqb w 1 ≡ b → P w
    at true e = subst P (sym (eqb-true w 1 e)) one
    at false e = other e

pub constant_word-and : (w c d : ℕ) → c < 2 ^ w → d < 2 ^ w → constant_word w (bit_and c d) ≡ bit_and (constant_word w c) (constant_word w d)
constant_word-and w c d =
    by_width (λ v. c < 2 ^ v → d < 2 ^ v → constant_word v (bit_and c d) ≡ bit_and (constant_word v c) (constant_word v d)) w
    (λ h k. one_and c d h k) (λ e h k. plain_two bit_and w c d e)

pub constant_word-xor : (w c d : ℕ) → c < 2 ^ w → d < 2 ^ w → constant_word w (bit_xor c d) ≡ bit_xor (constant_word w c) (constant_word w d)
constant_word-xor w c d =
    by_width (λ v. c < 2 ^ v → d < 2 ^ v → constant_word v (bit_xor c d) ≡ bit_xor (constant_word v c) (constant_word v d)) w
    (λ h k. one_xor c d h k) (λ e h k. plain_two bit_xor w c d e)

-- the complement of a constant is that of its word
pub constant_word-not : (w c : ℕ) → c < 2 ^ w → constant_word w (bit_xor c (ones w)) ≡ bit_xor (constant_word w c) (ones (bits_of_width w))
constant_word-not w c =
    by_width (λ v. c < 2 ^ v → constant_word v (bit_xor c (ones v)) ≡ bit_xor (constant_word v c) (ones (bits_of_width v))) w
    (λ h. one_xor c 1 h (omega arith))
    (λ e h. itself w (bit_xor c (ones w)) e ∙ sym (ap₂ bit_xor (itself w c e) (ap ones (own_bits w e))))

pub constant_word-lt : (w c : ℕ) → c < 2 ^ w → constant_word w c < 2 ^ bits_of_width w
constant_word-lt w c =
    by_width (λ v. c < 2 ^ v → constant_word v c < 2 ^ bits_of_width v) w
    (λ h. one_lt c h)
    (λ e h. let x = itself w c e in let y = ap (λ v. 2 ^ v) (own_bits w e) in omega arith)

pub constant_word-zero : (w : ℕ) → constant_word w 0 ≡ 0
constant_word-zero w = at (eqb w 1)
  where
    at : (b : Bool) → (if b && eqb 0 1 then ones (bits_of_width w) else 0) ≡ 0
    at true = refl
    at false = refl

-- ---- terms

-- a term and the word that an operation makes: it fits, and that is its value
pub record Makes (w : ℕ) (inputs : List ℕ) (t : Term) (word : ℕ) : Type 0 where
  pub fits : FitsWidth w inputs t
  pub same : word_of w inputs t ≡ word

-- a constant's value is its word
value_of_constant : (w : ℕ) (inputs : List ℕ) (t : Term) (c : ℕ) → constant t ≡ Some c → word_of w inputs t ≡ constant_word w c
value_of_constant w inputs (Input i) c e = absurd (let n : None ≡ Some c = e in cc)
value_of_constant w inputs (Const d) c e = let s : d ≡ c = cc in ap (constant_word w) s
value_of_constant w inputs (Xor a b) c e = absurd (let n : None ≡ Some c = e in cc)
value_of_constant w inputs (Not a) c e = absurd (let n : None ≡ Some c = e in cc)
value_of_constant w inputs (Mask d a) c e = absurd (let n : None ≡ Some c = e in cc)
value_of_constant w inputs (And a b) c e = absurd (let n : None ≡ Some c = e in cc)
value_of_constant w inputs (Shl k a) c e = absurd (let n : None ≡ Some c = e in cc)
value_of_constant w inputs (Shr k a) c e = absurd (let n : None ≡ Some c = e in cc)
value_of_constant w inputs (Rotl k a) c e = absurd (let n : None ≡ Some c = e in cc)
value_of_constant w inputs (Refresh k a) c e = absurd (let n : None ≡ Some c = e in cc)

number_lt : (w : ℕ) (inputs : List ℕ) (t : Term) (c : ℕ) → constant t ≡ Some c → FitsWidth w inputs t → c < 2 ^ w
number_lt w inputs t c e fits = let P : Option ℕ → Type 0 = λ o. IfSome o (λ d. d < 2 ^ w) in subst P e fits.number

module _ (w : ℕ) (inputs : List ℕ) where
  abbrev word : Term → ℕ
  word t = word_of w inputs t

  abbrev Fits : Term → Type 0
  Fits t = FitsWidth w inputs t

  -- a constant of w bits
  pub const_makes : (c : ℕ) → c < 2 ^ w → Makes w inputs (Const c) (constant_word w c)
  const_makes c h = record { fits = record { word = constant_word-lt w c h; number = h }; same = refl }

  and_fits : (t : Term) (x y : ℕ) → word t ≡ bit_and x y → x < 2 ^ bits_of_width w → IfSome (constant t) (λ c. c < 2 ^ w)
      → Makes w inputs t (bit_and x y)
  and_fits t x y e h number = let l = and_le_l x y in record { fits = record { word = omega arith; number = number }; same = e }

  and_by-makes : (a b : Term) (o p : Option ℕ) → constant a ≡ o → constant b ≡ p → Fits a → Fits b
      → Makes w inputs (and_by o p a b) (bit_and (word a) (word b))
  and_by-makes a b (Some c) (Some d) ea eb fa fb =
      let hc = number_lt w inputs a c ea fa in
      let hd = number_lt w inputs b d eb fb in
      let l = and_le_l c d in
      and_fits (Const (bit_and c d)) (word a) (word b)
      (constant_word-and w c d hc hd ∙ sym (ap₂ bit_and (value_of_constant w inputs a c ea) (value_of_constant w inputs b d eb)))
      fa.word (omega arith)
  and_by-makes a b (Some c) None ea eb fa fb =
      and_fits (Mask c b) (word a) (word b) (ap (λ x. bit_and x (word b)) (sym (value_of_constant w inputs a c ea))) fa.word tt
  and_by-makes a b None (Some d) ea eb fa fb =
      and_fits (Mask d a) (word a) (word b)
      (ap (λ x. bit_and x (word a)) (sym (value_of_constant w inputs b d eb)) ∙ and_comm (word b) (word a)) fa.word tt
  and_by-makes a b None None ea eb fa fb = and_fits (And a b) (word a) (word b) refl fa.word tt

  -- `a & b`
  pub and_term-makes : (a b : Term) → Fits a → Fits b → Makes w inputs (and_term a b) (bit_and (word a) (word b))
  and_term-makes a b fa fb = and_by-makes a b (constant a) (constant b) refl refl fa fb

  xor_fits : (t : Term) (x y : ℕ) → word t ≡ bit_xor x y → x < 2 ^ bits_of_width w → y < 2 ^ bits_of_width w
      → IfSome (constant t) (λ c. c < 2 ^ w) → Makes w inputs t (bit_xor x y)
  xor_fits t x y e h k number =
      let l = xor_lt (bits_of_width w) x y h k in
      record { fits = record { word = omega arith; number = number }; same = e }

  folded_two-makes : (a b : Term) (o p : Option ℕ) → constant a ≡ o → constant b ≡ p → Fits a → Fits b
      → Makes w inputs (folded_two bit_xor o p (Xor a b)) (bit_xor (word a) (word b))
  folded_two-makes a b (Some c) (Some d) ea eb fa fb =
      let hc = number_lt w inputs a c ea fa in
      let hd = number_lt w inputs b d eb fb in
      xor_fits (Const (bit_xor c d)) (word a) (word b)
      (constant_word-xor w c d hc hd ∙ sym (ap₂ bit_xor (value_of_constant w inputs a c ea) (value_of_constant w inputs b d eb)))
      fa.word fb.word (xor_lt w c d hc hd)
  folded_two-makes a b (Some c) None ea eb fa fb = xor_fits (Xor a b) (word a) (word b) refl fa.word fb.word tt
  folded_two-makes a b None p ea eb fa fb = xor_fits (Xor a b) (word a) (word b) refl fa.word fb.word tt

  -- `a ^ b`
  pub xor_term-makes : (a b : Term) → Fits a → Fits b → Makes w inputs (xor_term a b) (bit_xor (word a) (word b))
  xor_term-makes a b fa fb = folded_two-makes a b (constant a) (constant b) refl refl fa fb

  ones_lt : (v : ℕ) → ones v < 2 ^ v
  ones_lt v = let p = pow_pos v in omega arith

  folded_one-makes : (a : Term) (o : Option ℕ) → constant a ≡ o → Fits a
      → Makes w inputs (folded_one (λ c. bit_xor c (ones w)) o (Not a)) (bit_xor (word a) (ones (bits_of_width w)))
  folded_one-makes a (Some c) ea fa =
      let hc = number_lt w inputs a c ea fa in
      xor_fits (Const (bit_xor c (ones w))) (word a) (ones (bits_of_width w))
      (constant_word-not w c hc ∙ sym (ap (λ x. bit_xor x (ones (bits_of_width w))) (value_of_constant w inputs a c ea)))
      fa.word (ones_lt (bits_of_width w)) (xor_lt w c (ones w) hc (ones_lt w))
  folded_one-makes a None ea fa = xor_fits (Not a) (word a) (ones (bits_of_width w)) refl fa.word (ones_lt (bits_of_width w)) tt

  -- `~a`
  pub not_term-makes : (a : Term) → Fits a → Makes w inputs (not_term w a) (bit_xor (word a) (ones (bits_of_width w)))
  not_term-makes a fa = folded_one-makes a (constant a) refl fa
