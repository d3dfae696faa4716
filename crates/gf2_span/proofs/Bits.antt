-- Rows of bits in 64-bit words.
use Rattle.std.proofs.Common.{◌≡◌, ◌≢◌, ◌↔◌, ℕ, ◌+◌, ◌*◌, ◌/◌, ◌%◌, ◌^◌, ◌<◌, ◌≤◌, zero, suc, Bool, true, false, not, List, length, get_or, set, map, replicate, bit_and, bit_xor, eqb, IsTrue, Option, Some, None, MatchBool, MatchOption, refl, sym, ap, ◌∙◌, subst, inl, inr, arith}
use Rattle.std.specs.Bool.{beq}
use Rattle.std.specs.List.{range_with_len}
use Rattle.std.specs.Simd.Lanes.{zip2}
use Rattle.std.specs.Int.{bit_at}
use Rattle.std.specs.Option.{is_some}
use mathlib.Core.Path.{fun_ext}
use Rattle.std.proofs.lemmas.Simd.{length-zip2, get_or-zip2, length-replicate, get_or-replicate}
use Rattle.std.proofs.lemmas.Bool.{cases_lt, cases_eq, false≢true}
use Rattle.std.proofs.lemmas.List.{same_lists, get_or_default, get_or_past, length-set, get_or-set_same, get_or-set_other}
use Rattle.std.proofs.lemmas.List.FromFn.{length-map-range_with_len, get_or-map-range_with_len}
use Rattle.std.proofs.lemmas.Nat.{one_shl}
use Rattle.std.proofs.lemmas.Nat.Bits.{bit_at-zero, bit_at-lt, bit_at_xor, bit_at-pow_same, bit_at-pow_other, shr_and_one}
use Rattle.span_model.specs.Columns.{Columns, empty, set_of, ◌△◌}
use Rattle.gf2_span.specs.Words.{is_set, bits_of, IsPadded, IsRow, IsLastBelow}
use Rattle.gf2_span.specs.Rows.{IsFirst, IsFirstFrom, IsLast}
use Rattle.gf2_span.proofs.Kernels.{none_set}

pub length-bits : (columns : ℕ) (words : List ℕ) → length (bits_of columns words) ≡ columns
unfolding bits_of
length-bits columns words = length-map-range_with_len (is_set words) 0 columns

-- rows with as many bits have as many columns
pub as_long : (a b : ℕ) (words others : List ℕ) → length (bits_of a words) ≡ length (bits_of b others) → a ≡ b
as_long a b words others same = sym (length-bits a words) ∙ same ∙ length-bits b others

-- what is known of the words of one row, at the columns of another one with as many bits
pub other_row : (a b : ℕ) (words others : List ℕ) (end : ℕ) → length (bits_of a words) ≡ length (bits_of b others)
    → IsRow b others end → IsRow a others end
other_row a b words others end same row = let P : ℕ → Type 0 = λ n. IsRow n others end in subst P (sym (as_long a b words others same)) row

pub bit-bits : (columns : ℕ) (words : List ℕ) → IsPadded columns words → (c : ℕ) → get_or (bits_of columns words) c false ≡ is_set words c
unfolding bits_of
bit-bits columns words padded c = elim (cases_lt c columns) [
  | inl lt ↦ get_or-map-range_with_len (is_set words) 0 columns c c false lt (omega arith)
  | inr ge ↦ get_or_past (map (is_set words) (range_with_len 0 columns)) c false (omega (arith, length-map-range_with_len (is_set words) 0 columns)) ∙ sym (padded.clear c ge)
]

-- the set of a row is what its words say
pub set_of-bits : (columns : ℕ) (words : List ℕ) → IsPadded columns words → set_of (bits_of columns words) ≡ is_set words
set_of-bits columns words padded = fun_ext (λ c. bit-bits columns words padded c)

-- a row with the bits of the words
pub bits_from : (columns : ℕ) (words : List ℕ) (row : List Bool) → length row ≡ columns → ((c : ℕ) → c < columns → is_set words c ≡ get_or row c false) → bits_of columns words ≡ row
unfolding bits_of
bits_from columns words row long same =
    same_lists (map (is_set words) (range_with_len 0 columns)) row (length-map-range_with_len (is_set words) 0 columns ∙ sym long) (λ k d h.
    let in_row : k < columns = omega (arith, length-map-range_with_len (is_set words) 0 columns) in
    get_or-map-range_with_len (is_set words) 0 columns k k d in_row (omega arith) ∙ same k in_row ∙ get_or_default row k false d (omega arith))

odd_sum : (x y : ℕ) → x < 2 → y < 2 → eqb ((x + y) % 2) 1 ≡ not (beq (eqb x 1) (eqb y 1))
odd_sum zero zero h k = refl
odd_sum zero (suc zero) h k = refl
odd_sum (suc zero) zero h k = refl
odd_sum (suc zero) (suc zero) h k = refl
odd_sum (suc (suc x)) y h k = absurd (omega arith)
odd_sum zero (suc (suc y)) h k = absurd (omega arith)
odd_sum (suc zero) (suc (suc y)) h k = absurd (omega arith)

xor_bit : (a b i : ℕ) → eqb (bit_at (bit_xor a b) i) 1 ≡ not (beq (eqb (bit_at a i) 1) (eqb (bit_at b i) 1))
xor_bit a b i = ap (λ x. eqb x 1) (bit_at_xor a b i) ∙ odd_sum (bit_at a i) (bit_at b i) (bit_at-lt a i) (bit_at-lt b i)

-- the words of a sum have the symmetric difference of the columns
xor_set : (a b : List ℕ) (c : ℕ) → length a ≡ length b → is_set (zip2 bit_xor a b) c ≡ not (beq (is_set a c) (is_set b c))
unfolding is_set
xor_set a b c same =
    let word : get_or (zip2 bit_xor a b) (c / 64) 0 ≡ bit_xor (get_or a (c / 64) 0) (get_or b (c / 64) 0) = elim (cases_lt (c / 64) (length a)) [
      | inl lt ↦ get_or-zip2 bit_xor a b (c / 64) 0 0 0 lt (omega arith)
      | inr ge ↦
          get_or_past (zip2 bit_xor a b) (c / 64) 0 (omega (arith, length-zip2 bit_xor a b same))
          ∙ sym (ap (λ x. bit_xor x (get_or b (c / 64) 0)) (get_or_past a (c / 64) 0 ge) ∙ ap (λ x. bit_xor 0 x) (get_or_past b (c / 64) 0 (omega arith)))
    ] in
    ap (λ w. eqb (bit_at w (c % 64)) 1) word ∙ xor_bit (get_or a (c / 64) 0) (get_or b (c / 64) 0) (c % 64)

pub sum_padded : (columns : ℕ) (a b : List ℕ) → IsPadded columns a → IsPadded columns b → IsPadded columns (zip2 bit_xor a b)
sum_padded columns a b padded_a padded_b =
    let same : length a ≡ length b = padded_a.long ∙ sym padded_b.long in
    record {
      small = padded_a.small;
      long = length-zip2 bit_xor a b same ∙ padded_a.long;
      clear = λ c h. xor_set a b c same ∙ ap (λ x. not (beq x (is_set b c))) (padded_a.clear c h) ∙ ap (λ x. not (beq false x)) (padded_b.clear c h);
    }

pub row_sum : (columns : ℕ) (a b : List ℕ) (end_a end_b end : ℕ) → IsRow columns a end_a → IsRow columns b end_b
    → end_a ≤ end → end_b ≤ end → end ≤ length a → IsRow columns (zip2 bit_xor a b) end
row_sum columns a b end_a end_b end row_a row_b past_a past_b fits =
    let same : length a ≡ length b = row_a.padded.long ∙ sym row_b.padded.long in
    record {
      padded = sum_padded columns a b row_a.padded row_b.padded;
      within = omega (arith, length-zip2 bit_xor a b same);
      rest = λ c h. xor_set a b c same ∙ ap (λ x. not (beq x (is_set b c))) (row_a.rest c (omega arith)) ∙ ap (λ x. not (beq false x)) (row_b.rest c (omega arith));
    }

pub set_of-sum : (columns : ℕ) (a b : List ℕ) → IsPadded columns a → IsPadded columns b
    → set_of (bits_of columns (zip2 bit_xor a b)) ≡ set_of (bits_of columns a) △ set_of (bits_of columns b)
set_of-sum columns a b padded_a padded_b =
    let same : length a ≡ length b = padded_a.long ∙ sym padded_b.long in
    set_of-bits columns (zip2 bit_xor a b) (sum_padded columns a b padded_a padded_b)
    ∙ fun_ext (λ c. xor_set a b c same)
    ∙ ap (λ (x : Columns ℕ). x △ is_set b) (sym (set_of-bits columns a padded_a))
    ∙ ap (λ (x : Columns ℕ). set_of (bits_of columns a) △ x) (sym (set_of-bits columns b padded_b))

-- one flipped column
flipped : List ℕ → ℕ → List ℕ
flipped words c = set words (c / 64) (bit_xor (get_or words (c / 64) 0) (1 * 2 ^ (c % 64) % 2 ^ 64))

double_not : (b : Bool) → not (beq b true) ≡ not b
double_not true = refl
double_not false = refl

keep : (b : Bool) → not (beq b false) ≡ b
keep true = refl
keep false = refl

bit_flipped : (w k : ℕ) → k < 64 → eqb (bit_at (bit_xor w (1 * 2 ^ k % 2 ^ 64)) k) 1 ≡ not (eqb (bit_at w k) 1)
bit_flipped w k h =
    xor_bit w (1 * 2 ^ k % 2 ^ 64) k
    ∙ ap (λ x. not (beq (eqb (bit_at w k) 1) (eqb (bit_at x k) 1))) (one_shl k 64 h)
    ∙ ap (λ x. not (beq (eqb (bit_at w k) 1) (eqb x 1))) (bit_at-pow_same k)
    ∙ double_not (eqb (bit_at w k) 1)

bit_kept : (w k i : ℕ) → k < 64 → (i ≡ k → ⊥) → eqb (bit_at (bit_xor w (1 * 2 ^ k % 2 ^ 64)) i) 1 ≡ eqb (bit_at w i) 1
bit_kept w k i h other =
    xor_bit w (1 * 2 ^ k % 2 ^ 64) i
    ∙ ap (λ x. not (beq (eqb (bit_at w i) 1) (eqb (bit_at x i) 1))) (one_shl k 64 h)
    ∙ ap (λ x. not (beq (eqb (bit_at w i) 1) (eqb x 1))) (bit_at-pow_other k i other)
    ∙ keep (eqb (bit_at w i) 1)

set_flipped : (words : List ℕ) (c : ℕ) → c / 64 < length words → is_set (flipped words c) c ≡ not (is_set words c)
unfolding is_set flipped
set_flipped words c h =
    ap (λ w. eqb (bit_at w (c % 64)) 1) (get_or-set_same words (c / 64) (bit_xor (get_or words (c / 64) 0) (1 * 2 ^ (c % 64) % 2 ^ 64)) 0 h)
    ∙ bit_flipped (get_or words (c / 64) 0) (c % 64) (omega arith)

set_kept : (words : List ℕ) (c d : ℕ) → c / 64 < length words → (d ≡ c → ⊥) → is_set (flipped words c) d ≡ is_set words d
unfolding is_set flipped
set_kept words c d h other = elim (cases_eq (d / 64) (c / 64)) [
  | inl same ↦
      let e : get_or (set words (c / 64) (bit_xor (get_or words (c / 64) 0) (1 * 2 ^ (c % 64) % 2 ^ 64))) (d / 64) 0 ≡ bit_xor (get_or words (d / 64) 0) (1 * 2 ^ (c % 64) % 2 ^ 64) =
      ap (λ i. get_or (set words (c / 64) (bit_xor (get_or words (c / 64) 0) (1 * 2 ^ (c % 64) % 2 ^ 64))) i 0) same
      ∙ get_or-set_same words (c / 64) (bit_xor (get_or words (c / 64) 0) (1 * 2 ^ (c % 64) % 2 ^ 64)) 0 h
      ∙ ap (λ i. bit_xor (get_or words i 0) (1 * 2 ^ (c % 64) % 2 ^ 64)) (sym same) in
      ap (λ w. eqb (bit_at w (d % 64)) 1) e ∙ bit_kept (get_or words (d / 64) 0) (c % 64) (d % 64) (omega arith) (λ m. other (omega arith))
  | inr apart ↦ ap (λ w. eqb (bit_at w (d % 64)) 1) (get_or-set_other words (c / 64) (d / 64) (bit_xor (get_or words (c / 64) 0) (1 * 2 ^ (c % 64) % 2 ^ 64)) 0 apart)
]

pub flip_padded : (columns : ℕ) (words : List ℕ) (c : ℕ) → IsPadded columns words → c < columns
    → IsPadded columns (set words (c / 64) (bit_xor (get_or words (c / 64) 0) (1 * 2 ^ (c % 64) % 2 ^ 64)))
unfolding flipped
flip_padded columns words c padded h =
    let in_words : c / 64 < length words = omega (arith, padded.long) in
    record {
      small = padded.small;
      long = length-set words (c / 64) (bit_xor (get_or words (c / 64) 0) (1 * 2 ^ (c % 64) % 2 ^ 64)) ∙ padded.long;
      clear = λ d past. set_kept words c d in_words (λ e. absurd (omega arith)) ∙ padded.clear d past;
    }

pub row_flipped : (columns : ℕ) (words : List ℕ) (end c new_end : ℕ) → IsRow columns words end → c < columns
    → end ≤ new_end → c / 64 + 1 ≤ new_end → new_end ≤ length words
    → IsRow columns (set words (c / 64) (bit_xor (get_or words (c / 64) 0) (1 * 2 ^ (c % 64) % 2 ^ 64))) new_end
unfolding flipped
row_flipped columns words end c new_end row h past past_c fits =
    let in_words : c / 64 < length words = omega (arith, row.padded.long) in
    record {
      padded = flip_padded columns words c row.padded h;
      within = omega (arith, length-set words (c / 64) (bit_xor (get_or words (c / 64) 0) (1 * 2 ^ (c % 64) % 2 ^ 64)));
      rest = λ d past_d. set_kept words c d in_words (λ e. absurd (omega arith)) ∙ row.rest d (omega arith);
    }

pub bits-flip : (columns : ℕ) (words : List ℕ) (c : ℕ) → IsPadded columns words → c < columns
    → bits_of columns (set words (c / 64) (bit_xor (get_or words (c / 64) 0) (1 * 2 ^ (c % 64) % 2 ^ 64)))
    ≡ set (bits_of columns words) c (not (get_or (bits_of columns words) c false))
unfolding flipped
bits-flip columns words c padded h =
    let in_words : c / 64 < length words = omega (arith, padded.long) in
    let row : List Bool = bits_of columns words in
    let long : length (bits_of columns words) ≡ columns = length-bits columns words in
    bits_from columns (flipped words c) (set row c (not (get_or row c false))) (length-set row c (not (get_or row c false)) ∙ long) (λ d in_row.
    elim (cases_eq d c) [
      | inl same ↦
          ap (λ i. is_set (flipped words c) i) same ∙ set_flipped words c in_words ∙ ap not (sym (bit-bits columns words padded c))
          ∙ sym (get_or-set_same row c (not (get_or row c false)) false (omega arith)) ∙ ap (λ i. get_or (set row c (not (get_or row c false))) i false) (sym same)
      | inr other ↦
          set_kept words c d in_words other ∙ sym (bit-bits columns words padded d) ∙ sym (get_or-set_other row c d (not (get_or row c false)) false other)
    ])

-- no word is set in a row of zero words
zeros_unset : (n c : ℕ) → is_set (replicate n 0) c ≡ false
zeros_unset n c = none_set (replicate n 0) n (omega (arith, length-replicate {A = ℕ} n 0)) (λ k h. get_or-replicate {A = ℕ} n k 0 0 h) c

pub zeros_padded : (columns : ℕ) → columns < 2 ^ 32 → IsPadded columns (replicate ((columns + 63) / 64) 0)
zeros_padded columns small = record { small = small; long = length-replicate {A = ℕ} ((columns + 63) / 64) 0; clear = λ c _. zeros_unset ((columns + 63) / 64) c }

pub row_of_zeros : (columns : ℕ) → columns < 2 ^ 32 → IsRow columns (replicate ((columns + 63) / 64) 0) 0
row_of_zeros columns small = record { padded = zeros_padded columns small; within = omega arith; rest = λ c _. zeros_unset ((columns + 63) / 64) c }

pub bits-zeros : (columns n : ℕ) → bits_of columns (replicate n 0) ≡ replicate columns false
bits-zeros columns n =
    bits_from columns (replicate n 0) (replicate columns false) (length-replicate columns false) (λ c h. zeros_unset n c ∙ sym (get_or-replicate columns c false false h))

-- rows whose words differ in a column differ
pub rows_compared : (a b : ℕ) (words others : List ℕ) (same : Bool) → IsPadded a words → IsPadded b others → a ≡ b
    → MatchBool same (words ≡ others) (is_set words ≢ is_set others)
    → MatchBool same (bits_of a words ≡ bits_of b others) (bits_of a words ≢ bits_of b others)
rows_compared a b words others true padded padded_others columns e =
    ap (λ n. bits_of n words) columns ∙ ap (λ ws. bits_of b ws) e
rows_compared a b words others false padded padded_others columns differ =
    λ e. differ (sym (set_of-bits a words padded) ∙ ap set_of e ∙ set_of-bits b others padded_others)

-- the test of one bit
pub bit_test : (words : List ℕ) (c : ℕ) (word : ℕ) → word ≡ get_or words (c / 64) 0 → eqb (bit_and (word / 2 ^ (c % 64)) 1) 1 ≡ is_set words c
unfolding is_set
bit_test words c word e = ap (λ x. eqb x 1) (shr_and_one word (c % 64)) ∙ ap (λ w. eqb (bit_at w (c % 64)) 1) e

pub past_unset : (words : List ℕ) (c : ℕ) → length words ≤ c / 64 → is_set words c ≡ false
unfolding is_set
past_unset words c past = ap (λ w. eqb (bit_at w (c % 64)) 1) (get_or_past words (c / 64) 0 past) ∙ ap (λ b. eqb b 1) (bit_at-zero (c % 64))

-- words are zero from any number on that is past the end
pub rest_past : (columns : ℕ) (words : List ℕ) (end past : ℕ) → IsRow columns words end → end ≤ past → (c : ℕ) → 64 * past ≤ c → is_set words c ≡ false
rest_past columns words end past row less c h = row.rest c (omega arith)

-- a row of which fewer words are in use, where it has no column past one
pub row_cut : (columns : ℕ) (words : List ℕ) (end new_end lead : ℕ) → IsRow columns words end → ((c : ℕ) → lead < c → set_of (bits_of columns words) c ≡ false)
    → new_end ≤ end → ((m : ℕ) → new_end ≤ m → m < end → lead / 64 + 1 ≤ m) → IsRow columns words new_end
row_cut columns words end new_end lead row none less gap = record {
  padded = row.padded;
  within = omega (arith, row.within);
  rest = λ c h. elim (cases_lt c (64 * end)) [
    | inl here ↦ (let low : lead / 64 + 1 ≤ c / 64 = gap (c / 64) (omega arith) (omega arith) in sym (bit-bits columns words row.padded c) ∙ none c (omega arith))
    | inr past ↦ row.rest c past
  ];
}

-- the last bit of the words below the end is the greatest column of the row below it
pub last_column : (columns : ℕ) (words : List ℕ) (end b : ℕ) → IsPadded columns words → IsLastBelow (is_set words) end b → IsLastBelow (set_of (bits_of columns words)) end b
last_column columns words end b padded last =
    let P : Columns ℕ → Type 0 = λ row. IsLastBelow row end b in
    subst P (sym (set_of-bits columns words padded)) last

pub no_column_below : (columns : ℕ) (words : List ℕ) (end : ℕ) → IsPadded columns words → ((c : ℕ) → c < end → is_set words c ≡ false)
    → (c : ℕ) → c < end → set_of (bits_of columns words) c ≡ false
no_column_below columns words end padded none c h = bit-bits columns words padded c ∙ none c h

-- the greatest column of the row below its length is the greatest of all
pub last_of_all : (row : List Bool) (columns : ℕ) (o : Option ℕ) → columns ≡ length row
    → MatchOption o ((c : ℕ) → c < columns → set_of row c ≡ false) (λ c. IsLastBelow (set_of row) columns c)
    → MatchOption o (set_of row ≡ empty) (λ c. (c < length row) × IsLast (set_of row) c)
last_of_all row columns None e none = fun_ext (λ c. elim (cases_lt c columns) [ inl lt ↦ none c lt | inr ge ↦ get_or_past row c false (omega arith) ])
last_of_all row columns (Some b) e last = (
  omega (arith, last.below),
  record {
    there = last.there;
    none_after = λ c after. elim (cases_lt c columns) [ inl lt ↦ last.none_after c after lt | inr ge ↦ get_or_past row c false (omega arith) ];
  },
)

-- the first bit of the words from a place on is the first column of the row from there on
pub first_column_from : (columns : ℕ) (words : List ℕ) (start b : ℕ) → IsPadded columns words → IsFirstFrom (is_set words) start b
    → (b < length (bits_of columns words)) × IsFirstFrom (set_of (bits_of columns words)) start b
first_column_from columns words start b padded first =
    let inside : b < columns = elim (cases_lt b columns) [ inl lt ↦ lt | inr ge ↦ absurd (false≢true (sym (padded.clear b ge) ∙ first.there)) ] in
    let P : Columns ℕ → Type 0 = λ row. IsFirstFrom row start b in
    (omega (arith, length-bits columns words), subst P (sym (set_of-bits columns words padded)) first)

-- words with no bit from a place on have no column there
pub no_column_from : (columns : ℕ) (words : List ℕ) (start : ℕ) → IsPadded columns words → ((c : ℕ) → start ≤ c → is_set words c ≡ false)
    → (c : ℕ) → start ≤ c → set_of (bits_of columns words) c ≡ false
no_column_from columns words start padded none c h = bit-bits columns words padded c ∙ none c h

-- the least column from 0 on is the least of all
pub first_of_all : (row : Columns ℕ) (bound : ℕ) (o : Option ℕ)
    → MatchOption o ((c : ℕ) → 0 ≤ c → row c ≡ false) (λ c. (c < bound) × IsFirstFrom row 0 c)
    → MatchOption o (row ≡ empty) (λ c. (c < bound) × IsFirst row c)
first_of_all row bound None none = fun_ext (λ c. none c (omega arith))
first_of_all row bound (Some b) first = (
  first.0,
  record { there = first.1.there; none_before = λ c before. first.1.none_before c (omega arith) before },
)

-- the test whether there is a first column
pub no_first : (row : Columns ℕ) (o : Option ℕ) (none : Bool) (bound : ℕ) → is_some o ≡ not none → MatchOption o (row ≡ empty) (λ c. (c < bound) × IsFirst row c)
    → IsTrue none ↔ (row ≡ empty)
no_first row None true bound e h = (λ _. h, λ _. refl)
no_first row None false bound e h = absurd (false≢true e)
no_first row (Some c) false bound e h = (λ t. absurd (false≢true t), λ z. absurd (false≢true (sym (ap (λ (x : Columns ℕ). x c) z) ∙ h.1.there)))
no_first row (Some c) true bound e h = absurd (false≢true (sym e))
