-- Terms and the words that they make: the operators of terms keep this relation.
use Rattle.std.proofs.Common.{◌≡◌, ℕ, ◌+◌, ◌-◌, ◌*◌, ◌/◌, ◌%◌, ◌^◌, ◌<◌, zero, suc, Bool, true, false, eqb, List, Option, Some, None, IfSome, min, max, bit_and, bit_or, bit_xor, refl, sym, ap, ap₂, ◌∙◌, subst, arith, eqb-true, mod-eq_of_lt, pow_pos}
use Rattle.std.specs.Prelude.{if◌then◌else◌, ◌&&◌}
use Rattle.std.specs.Int.{bit_at}
use Rattle.std.proofs.lemmas.Nat.{mod_low, shr_below, shr_le}
use lib.Bits.{or_zero_l, or_zero_r, or_lt, xor_lt, and_lt}
use Rattle.std.proofs.lemmas.Nat.Bits.{bit_at_and, bit_at_or, bit_at_xor, bit_at_ones, bit_at-lt, same_from_bits_below}
use Rattle.usuba_trees.specs.declared.BitOp.{BitOp}
use Rattle.usuba_trees.specs.declared.BitOp.TheVariants as bits
use Rattle.usuba_trees.specs.declared.ShiftKind.{ShiftKind}
use Rattle.usuba_trees.specs.declared.ShiftKind.TheVariants as kind
use Rattle.usuba0.specs.Term.{Term, Input, Const, Xor, Not, Mask, And, Shl, Shr, Rotl, Refresh, constant, ones, folded_one, shifted_left, shifted_right, rotated_left, and_term, not_term, or_term, turned, bits_of_width}
use Rattle.usuba0.proofs.KeepLemmas.{rotated_lt, shifted_left_lt}
use Rattle.usuba_model.specs.Meaning.{word_operation, word_shift, word_operators}
use Rattle.usuba_model.proofs.Relating.{Preserve}
use Rattle.table_anf.specs.TableLaws.{word_of, FitsWidth}
use Rattle.table_anf.proofs.RelatedLookUps.{look_ups_related}
use Rattle.table_anf.proofs.Values.{Makes, constant_word, const_makes, and_term-makes, xor_term-makes, not_term-makes}
use Rattle.source_terms.specs.SourceTerms.{term_operation, turn_of, term_operators}
use Rattle.source_terms.proofs.Fitting.{width_bounds}

-- ---- `|` by `~` and `&`

bits_or : (a b o : ℕ) → a < 2 → b < 2 → o ≡ 1 → (min ((a + o) % 2) ((b + o) % 2) + o) % 2 ≡ max a b
bits_or zero zero o h k e = ap (λ (x : ℕ). (min ((0 + x) % 2) ((0 + x) % 2) + x) % 2) e
bits_or zero (suc zero) o h k e = ap (λ (x : ℕ). (min ((0 + x) % 2) ((1 + x) % 2) + x) % 2) e
bits_or (suc zero) zero o h k e = ap (λ (x : ℕ). (min ((1 + x) % 2) ((0 + x) % 2) + x) % 2) e
bits_or (suc zero) (suc zero) o h k e = ap (λ (x : ℕ). (min ((1 + x) % 2) ((1 + x) % 2) + x) % 2) e
bits_or (suc (suc a)) b o h k e = absurd (omega arith)
bits_or zero (suc (suc b)) o h k e = absurd (omega arith)
bits_or (suc zero) (suc (suc b)) o h k e = absurd (omega arith)

ones_lt : (B : ℕ) → ones B < 2 ^ B
ones_lt B = let p = pow_pos B in omega arith

-- `a | b` is `~(~a & ~b)` on words of B bits
or_by_and : (B x y : ℕ) → x < 2 ^ B → y < 2 ^ B
    → bit_xor (bit_and (bit_xor x (ones B)) (bit_xor y (ones B))) (ones B) ≡ bit_or x y
or_by_and B x y h k =
    let o = ones_lt B in
    same_from_bits_below B (bit_xor (bit_and (bit_xor x (ones B)) (bit_xor y (ones B))) (ones B)) (bit_or x y)
    (xor_lt B (bit_and (bit_xor x (ones B)) (bit_xor y (ones B))) (ones B)
    (and_lt B (bit_xor x (ones B)) (bit_xor y (ones B)) (xor_lt B x (ones B) h o) (xor_lt B y (ones B) k o)) o)
    (or_lt B x y h k)
    (λ i l.
    bit_at_xor (bit_and (bit_xor x (ones B)) (bit_xor y (ones B))) (ones B) i
    ∙ ap (λ (b : ℕ). (b + bit_at (ones B) i) % 2)
    (bit_at_and (bit_xor x (ones B)) (bit_xor y (ones B)) i ∙ ap₂ min (bit_at_xor x (ones B) i) (bit_at_xor y (ones B) i))
    ∙ bits_or (bit_at x i) (bit_at y i) (bit_at (ones B) i) (bit_at-lt x i) (bit_at-lt y i) (bit_at_ones B i l)
    ∙ sym (bit_at_or x y i))

-- ---- shifts

left_none : (B y : ℕ) → y < 2 ^ B → shifted_left B 0 y ≡ y
left_none B y h = ap (λ (n : ℕ). n % 2 ^ B) (let e : y * 2 ^ 0 ≡ y = omega arith in e) ∙ mod-eq_of_lt h

left_all : (B y : ℕ) → shifted_left B B y ≡ 0
left_all B y = ap (λ (n : ℕ). n % 2 ^ B) (let e : y * 2 ^ B ≡ y * 2 ^ B + 0 = omega arith in e) ∙ mod_low y B 0 (pow_pos B)

right_none : (y : ℕ) → shifted_right 0 y ≡ y
right_none y = omega arith

right_all : (B y : ℕ) → y < 2 ^ B → shifted_right B y ≡ 0
right_all B y h =
    let P : ℕ → Type 0 = λ n. y < 2 ^ n in
    let e : B ≡ 0 + B = omega arith in
    let l : y / 2 ^ B < 2 ^ 0 = shr_below y 0 B (subst P e h) in
    omega (arith, l)

rotate_none : (B y : ℕ) → y < 2 ^ B → rotated_left B 0 y ≡ y
rotate_none B y h =
    let e : B - 0 ≡ B = omega arith in
    ap₂ bit_or (left_none B y h) (ap (λ (n : ℕ). shifted_right n y) e ∙ right_all B y h) ∙ or_zero_r y

rotate_all : (B y : ℕ) → rotated_left B (B - 0) y ≡ y
rotate_all B y =
    let e : B - 0 ≡ B = omega arith in
    let z : B - B ≡ 0 = omega arith in
    ap (λ (n : ℕ). rotated_left B n y) e
    ∙ ap₂ bit_or (left_all B y) (ap (λ (n : ℕ). shifted_right n y) z ∙ right_none y)
    ∙ or_zero_l y

-- a shift by 0 of a word is the word
shift_by_none : (B : ℕ) (way : ShiftKind) (y : ℕ) → y < 2 ^ B → word_shift B way 0 y ≡ y
shift_by_none B kind.Left y h = left_none B y h
shift_by_none B kind.Right y h = right_none y
shift_by_none B kind.RotLeft y h = rotate_none B y h
shift_by_none B kind.RotRight y h = rotate_all B y

-- a constant's value is its word
value_of_constant : (w : ℕ) (inputs : List ℕ) (t : Term) (c : ℕ) → constant t ≡ Some c → word_of w inputs t ≡ constant_word w c
value_of_constant w inputs (Const d) c e = let s : d ≡ c = cc in ap (constant_word w) s
value_of_constant w inputs (Input i) c e = absurd (let n : None ≡ Some c = e in cc)
value_of_constant w inputs (Xor a b) c e = absurd (let n : None ≡ Some c = e in cc)
value_of_constant w inputs (Not a) c e = absurd (let n : None ≡ Some c = e in cc)
value_of_constant w inputs (Mask d a) c e = absurd (let n : None ≡ Some c = e in cc)
value_of_constant w inputs (And a b) c e = absurd (let n : None ≡ Some c = e in cc)
value_of_constant w inputs (Shl k a) c e = absurd (let n : None ≡ Some c = e in cc)
value_of_constant w inputs (Shr k a) c e = absurd (let n : None ≡ Some c = e in cc)
value_of_constant w inputs (Rotl k a) c e = absurd (let n : None ≡ Some c = e in cc)
value_of_constant w inputs (Refresh k a) c e = absurd (let n : None ≡ Some c = e in cc)

number_lt : (w : ℕ) (inputs : List ℕ) (t : Term) (c : ℕ) → constant t ≡ Some c → FitsWidth w inputs t → c < 2 ^ w
number_lt w inputs t c e fits = let P : Option ℕ → Type 0 = λ o. IfSome o (λ d. d < 2 ^ w) in subst P e fits.number

-- at another width than 1 a constant is itself, and a word has as many bits as the width
itself : (w c : ℕ) → eqb w 1 ≡ false → constant_word w c ≡ c
itself w c e = ap (λ b. if b && eqb c 1 then ones (bits_of_width w) else c) e

own_bits : (w : ℕ) → eqb w 1 ≡ false → bits_of_width w ≡ w
own_bits w e = ap (λ b. if b then 32 else w) e

module _ (w : ℕ) (inputs : List ℕ) where
  abbrev B : ℕ
  B = bits_of_width w

  abbrev word : Term → ℕ
  word t = word_of w inputs t

  becomes : (t : Term) (x y : ℕ) → Makes w inputs t x → x ≡ y → Makes w inputs t y
  becomes t x y made e = record { fits = made.fits; same = made.same ∙ e }

  -- ---- operations

  or_makes_word : (a b : Term) → FitsWidth w inputs a → FitsWidth w inputs b → Makes w inputs (or_term w a b) (bit_or (word a) (word b))
  or_makes_word a b fa fb =
      let na = not_term-makes w inputs a fa in
      let nb = not_term-makes w inputs b fb in
      let both = and_term-makes w inputs (not_term w a) (not_term w b) na.fits nb.fits in
      let last = not_term-makes w inputs (and_term (not_term w a) (not_term w b)) both.fits in
      becomes (or_term w a b) (bit_xor (word (and_term (not_term w a) (not_term w b))) (ones B)) (bit_or (word a) (word b)) last
      (ap (λ (x : ℕ). bit_xor x (ones B)) (both.same ∙ ap₂ bit_and na.same nb.same) ∙ or_by_and B (word a) (word b) fa.word fb.word)

  operation_makes : (op : BitOp) (a b : Term) (x y : ℕ) → Makes w inputs a x → Makes w inputs b y
      → Makes w inputs (term_operation w op a b) (word_operation op x y)
  operation_makes bits.And a b x y ma mb =
      becomes (and_term a b) (bit_and (word a) (word b)) (bit_and x y) (and_term-makes w inputs a b ma.fits mb.fits) (ap₂ bit_and ma.same mb.same)
  operation_makes bits.Xor a b x y ma mb =
      becomes (term_operation w bits.Xor a b) (bit_xor (word a) (word b)) (bit_xor x y) (xor_term-makes w inputs a b ma.fits mb.fits) (ap₂ bit_xor ma.same mb.same)
  operation_makes bits.Or a b x y ma mb =
      becomes (or_term w a b) (bit_or (word a) (word b)) (bit_or x y) (or_makes_word a b ma.fits mb.fits) (ap₂ bit_or ma.same mb.same)

  -- ---- shifts

  -- an operation on one operand, on constants and on words alike
  folded_makes : (f : ℕ → ℕ) (a u : Term) (o : Option ℕ) → constant a ≡ o → constant u ≡ None → word u ≡ f (word a)
      → ((c : ℕ) → c < 2 ^ w → f c < 2 ^ w) → eqb w 1 ≡ false → FitsWidth w inputs a → Makes w inputs (folded_one f o u) (f (word a))
  folded_makes f a u (Some c) ea eu e small other fa =
      let below = small c (number_lt w inputs a c ea fa) in
      becomes (Const (f c)) (constant_word w (f c)) (f (word a)) (const_makes w inputs (f c) below)
      (itself w (f c) other ∙ ap f (sym (itself w c other) ∙ sym (value_of_constant w inputs a c ea)))
  folded_makes f a u None ea eu e small other fa =
      let P : Option ℕ → Type 0 = λ o. IfSome o (λ d. d < 2 ^ w) in
      let same_bits = own_bits w other in
      let Q : ℕ → Type 0 = λ v. word u < 2 ^ v in
      let R : ℕ → Type 0 = λ v. word a < 2 ^ v in
      let below : f (word a) < 2 ^ w = small (word a) (subst R same_bits fa.word) in
      let below_u : word u < 2 ^ w = subst (λ (x : ℕ). x < 2 ^ w) (sym e) below in
      record { fits = record { word = subst Q (sym same_bits) below_u; number = subst P (sym eu) tt }; same = e }

  turned_makes : (way : ShiftKind) (k : ℕ) (a : Term) → 0 < k → k < w → eqb w 1 ≡ false → FitsWidth w inputs a
      → Makes w inputs (turned w (turn_of way) k a) (word_shift B way k (word a))
  turned_makes kind.Left k a some less other fa =
      let same_bits = own_bits w other in
      becomes (turned w (turn_of kind.Left) k a) (shifted_left w k (word a)) (shifted_left B k (word a))
      (folded_makes (shifted_left w k) a (Shl k a) (constant a) refl refl (ap (λ (v : ℕ). shifted_left v k (word a)) same_bits)
      (λ c h. shifted_left_lt w k c (shifted_left w k c) refl) other fa)
      (ap (λ (v : ℕ). shifted_left v k (word a)) (sym same_bits))
  turned_makes kind.Right k a some less other fa =
      folded_makes (shifted_right k) a (Shr k a) (constant a) refl refl refl
      (λ c h. let l = shr_le c k in omega (arith, l, h)) other fa
  turned_makes kind.RotLeft k a some less other fa =
      let same_bits = own_bits w other in
      becomes (turned w (turn_of kind.RotLeft) k a) (rotated_left w k (word a)) (rotated_left B k (word a))
      (folded_makes (rotated_left w k) a (Rotl k a) (constant a) refl refl (ap (λ (v : ℕ). rotated_left v k (word a)) same_bits)
      (λ c h. rotated_lt w k c (rotated_left w k c) h refl) other fa)
      (ap (λ (v : ℕ). rotated_left v k (word a)) (sym same_bits))
  turned_makes kind.RotRight k a some less other fa =
      let same_bits = own_bits w other in
      becomes (turned w (turn_of kind.RotRight) k a) (rotated_left w (w - k) (word a)) (rotated_left B (B - k) (word a))
      (folded_makes (rotated_left w (w - k)) a (Rotl (w - k) a) (constant a) refl refl (ap (λ (v : ℕ). rotated_left v (w - k) (word a)) same_bits)
      (λ c h. rotated_lt w (w - k) c (rotated_left w (w - k) c) h refl) other fa)
      (ap (λ (v : ℕ). rotated_left v (v - k) (word a)) (sym same_bits))

  -- a width above an amount above 0 is not 1
  other_width : (k : ℕ) → 0 < k → k < w → (b : Bool) → eqb w 1 ≡ b → eqb w 1 ≡ false
  other_width k some less true e = let one = eqb-true w 1 e in absurd (omega (arith, some, less, one))
  other_width k some less false e = e

  shift_makes : (way : ShiftKind) (k : ℕ) (a : Term) → k < w → FitsWidth w inputs a → (b : Bool) → eqb k 0 ≡ b
      → Makes w inputs (if b then a else turned w (turn_of way) k a) (word_shift B way k (word a))
  shift_makes way k a less fa true e =
      becomes a (word a) (word_shift B way k (word a)) (record { fits = fa; same = refl })
      (sym (ap (λ (m : ℕ). word_shift B way m (word a)) (eqb-true k 0 e) ∙ shift_by_none B way (word a) fa.word))
  shift_makes way k a less fa false e =
      let some = above_none k e in turned_makes way k a some less (other_width k some less (eqb w 1) refl) fa
    where
      above_none : (k : ℕ) → eqb k 0 ≡ false → 0 < k
      above_none zero e = absurd (let x : true ≡ false = e in cc)
      above_none (suc k) e = omega arith

  -- the operators of terms and those of words keep what terms make
  pub words_kept : Preserve (width_bounds w) (Makes w inputs) (term_operators w) (word_operators w B)
  words_kept = record {
    numbers = λ n h. const_makes w inputs n h;
    complements = λ t x made.
        becomes (not_term w t) (bit_xor (word t) (ones B)) (bit_xor x (ones B)) (not_term-makes w inputs t made.fits)
        (ap (λ (y : ℕ). bit_xor y (ones B)) made.same);
    operations = λ op a b x y ma mb. operation_makes op a b x y ma mb;
    shifts = λ way k t x less made.
        becomes _ (word_shift B way k (word t)) (word_shift B way k x) (shift_makes way k t less made.fits (eqb k 0) refl)
        (ap (word_shift B way k) made.same);
    refreshes = λ k t x h made.
        record { fits = record { word = made.fits.word; number = tt }; same = made.same };
    look_ups = λ m entries args words j h related. look_ups_related w inputs m entries args words j related;
  }
