-- The loops over words.
use Rattle.std.proofs.Common.{◌∷◌, [], zero, bit_or, ◌≡◌, ℕ, suc, pow-suc, min, bit_and, true, Option, Some, None, MatchOption, ◌+◌, ◌-◌, ◌*◌, ◌/◌, ◌%◌, ◌^◌, ◌<◌, ◌≤◌, false, List, length, get_or, set, bit_xor, eqb, Fits, refl, sym, ap, ◌∙◌, subst, inl, inr, arith}
use Rattle.std.specs.Simd.Lanes.{zip2, chunk, put_chunk, fold_l}
use Rattle.std.specs.Int.{bit_at, trailing_zeros, w64}
use Rattle.std.proofs.lemmas.Simd.{length-chunk, length-zip2, length-put_chunk, get_or-zip2, get_or-chunk, get_or-put_chunk_at, get_or-put_chunk_below, get_or-put_chunk_above}
use Rattle.std.proofs.lemmas.Bool.{cases_lt, cases_eq, cases_Bool, eqb-true, eqb-false}
use Rattle.std.proofs.lemmas.List.{same_lists, get_or_default, get_or_past, length-set, get_or-set_same, get_or-set_other}
use Rattle.std.proofs.lemmas.Nat.{xor_comm, le_or_l, le_or_r, pow-add}
use Rattle.std.proofs.Math.Nat.{div-div-eq-div-mul, div-le_self}
use Rattle.std.proofs.lemmas.Nat.Bits.{bit_at-zero, bit_at-trailing_zeros, bit_at-lt, same_from_bits_below, same_from_bits, bit_at_xor, bit_at_and, bit_at_ones, bit_at_ones_above, bit_at_above, bit_at_cat_high}
use Rattle.gf2_span.specs.Words.{is_set, IsLastBelow}
use Rattle.gf2_span.specs.Rows.{IsFirstFrom}

-- the words before `at` are those of the sum, and the others are as they were
pub record IsAddedBelow (old other new : List ℕ) (at : ℕ) : Type 0 where
  pub within : at ≤ length other
  pub long : length new ≡ length old
  pub below : (k : ℕ) → k < at → get_or new k 0 ≡ bit_xor (get_or old k 0) (get_or other k 0)
  pub above : (k : ℕ) → at ≤ k → get_or new k 0 ≡ get_or old k 0

-- one word of a block of eight
lane_added : (old other now : List ℕ) (at j : ℕ) → length old ≡ length other → at + 8 ≤ length other → IsAddedBelow old other now at → j < 8
    → get_or (put_chunk at now (zip2 bit_xor (chunk at 8 now) (chunk at 8 other))) (at + j) 0 ≡ bit_xor (get_or old (at + j) 0) (get_or other (at + j) 0)
lane_added old other now at j same room added below =
    let now_room : at + 8 ≤ length now = omega (arith, added.long) in
    let now_8 : length (chunk at 8 now) ≡ 8 = length-chunk at 8 now now_room in
    let other_8 : length (chunk at 8 other) ≡ 8 = length-chunk at 8 other room in
    let sum_8 : length (zip2 bit_xor (chunk at 8 now) (chunk at 8 other)) ≡ 8 = length-zip2 bit_xor (chunk at 8 now) (chunk at 8 other) (now_8 ∙ sym other_8) ∙ now_8 in
    get_or-put_chunk_at at now (zip2 bit_xor (chunk at 8 now) (chunk at 8 other)) j 0 (omega arith) (omega arith)
    ∙ get_or-zip2 bit_xor (chunk at 8 now) (chunk at 8 other) j 0 0 0 (omega arith) (omega arith)
    ∙ ap (λ x. bit_xor x (get_or (chunk at 8 other) j 0)) (get_or-chunk at 8 now j 0 below ∙ added.above (at + j) (omega arith))
    ∙ ap (λ x. bit_xor (get_or old (at + j) 0) x) (get_or-chunk at 8 other j 0 below)

-- a block of eight more words
pub lanes_added : (old other now : List ℕ) (at : ℕ) → length old ≡ length other → at + 8 ≤ length other → IsAddedBelow old other now at
    → IsAddedBelow old other (put_chunk at now (zip2 bit_xor (chunk at 8 now) (chunk at 8 other))) (at + 8)
lanes_added old other now at same room added =
    let now_room : at + 8 ≤ length now = omega (arith, added.long) in
    let now_8 : length (chunk at 8 now) ≡ 8 = length-chunk at 8 now now_room in
    let other_8 : length (chunk at 8 other) ≡ 8 = length-chunk at 8 other room in
    let sum_8 : length (zip2 bit_xor (chunk at 8 now) (chunk at 8 other)) ≡ 8 = length-zip2 bit_xor (chunk at 8 now) (chunk at 8 other) (now_8 ∙ sym other_8) ∙ now_8 in
    let sum : List ℕ = zip2 bit_xor (chunk at 8 now) (chunk at 8 other) in
    record {
      within = room;
      long = length-put_chunk at now sum ∙ added.long;
      below = λ k h. elim (cases_lt k at) [
        | inl lt ↦ get_or-put_chunk_below at now sum k 0 lt ∙ added.below k lt
        | inr ge ↦
            let P : ℕ → Type 0 = λ i. get_or (put_chunk at now sum) i 0 ≡ bit_xor (get_or old i 0) (get_or other i 0) in
            let e : at + (k - at) ≡ k = omega arith in
            subst P e (lane_added old other now at (k - at) same room added (omega arith))
      ];
      above = λ k h. get_or-put_chunk_above at now sum k 0 (omega arith) ∙ added.above k (omega arith);
    }

-- the words before `at` are those of the other row, and those from it on are as they were
pub record IsCopiedBelow (old other new : List ℕ) (at : ℕ) : Type 0 where
  pub within : at ≤ length other
  pub long : length new ≡ length old
  pub below : (k : ℕ) → k < at → get_or new k 0 ≡ get_or other k 0
  pub above : (k : ℕ) → at ≤ k → get_or new k 0 ≡ get_or old k 0

pub none_copied : (old other : List ℕ) → IsCopiedBelow old other old 0
none_copied old other = record {
  within = omega arith;
  long = refl;
  below = λ k h. absurd (omega arith);
  above = λ k h. refl;
}

-- a block of eight more words
pub lanes_copied : (old other now : List ℕ) (at : ℕ) → length old ≡ length other → at + 8 ≤ length other → IsCopiedBelow old other now at
    → IsCopiedBelow old other (put_chunk at now (chunk at 8 other)) (at + 8)
lanes_copied old other now at same room copied =
    let now_room : at + 8 ≤ length now = omega (arith, copied.long) in
    let other_8 : length (chunk at 8 other) ≡ 8 = length-chunk at 8 other room in
    record {
      within = room;
      long = length-put_chunk at now (chunk at 8 other) ∙ copied.long;
      below = λ k h. elim (cases_lt k at) [
        | inl lt ↦ get_or-put_chunk_below at now (chunk at 8 other) k 0 lt ∙ copied.below k lt
        | inr ge ↦
            let P : ℕ → Type 0 = λ i. get_or (put_chunk at now (chunk at 8 other)) i 0 ≡ get_or other i 0 in
            let e : at + (k - at) ≡ k = omega arith in
            subst P e (get_or-put_chunk_at at now (chunk at 8 other) (k - at) 0 (omega arith) (omega arith) ∙ get_or-chunk at 8 other (k - at) 0 (omega arith))
      ];
      above = λ k h. get_or-put_chunk_above at now (chunk at 8 other) k 0 (omega arith) ∙ copied.above k (omega arith);
    }

-- zero words have no column
pub none_set : (words : List ℕ) (at : ℕ) → length words ≤ at → ((k : ℕ) → k < at → get_or words k 0 ≡ 0) → (c : ℕ) → is_set words c ≡ false
unfolding is_set
none_set words at past zeros c =
    let zero_word : get_or words (c / 64) 0 ≡ 0 = elim (cases_lt (c / 64) at) [ inl lt ↦ zeros (c / 64) lt | inr ge ↦ get_or_past words (c / 64) 0 (omega arith) ] in
    ap (λ w. eqb (bit_at w (c % 64)) 1) zero_word ∙ ap (λ b. eqb b 1) (bit_at-zero (c % 64))

-- no column is set in a word that is zero
pub zero_unset : (words : List ℕ) (c : ℕ) → get_or words (c / 64) 0 ≡ 0 → is_set words c ≡ false
unfolding is_set
zero_unset words c zero_word = ap (λ w. eqb (bit_at w (c % 64)) 1) zero_word ∙ ap (λ b. eqb b 1) (bit_at-zero (c % 64))

-- whether a column is set, by its word and its bit
set_as : (words : List ℕ) (at i : ℕ) → i < 64 → is_set words (64 * at + i) ≡ eqb (bit_at (get_or words at 0) i) 1
unfolding is_set
set_as words at i h =
    let word_at : (64 * at + i) / 64 ≡ at = omega arith in
    let bit_in : (64 * at + i) % 64 ≡ i = omega arith in
    ap (λ j. eqb (bit_at (get_or words j 0) ((64 * at + i) % 64)) 1) word_at ∙ ap (λ j. eqb (bit_at (get_or words at 0) j) 1) bit_in

same_bit : (x y : ℕ) → x < 2 → y < 2 → eqb x 1 ≡ eqb y 1 → x ≡ y
same_bit x y h k e = elim (cases_Bool (eqb y 1)) [
  | inl one ↦ eqb-true x 1 (e ∙ one) ∙ sym (eqb-true y 1 one)
  | inr none ↦
      let x_not : x ≡ 1 → ⊥ = eqb-false x 1 (e ∙ none) in
      let y_not : y ≡ 1 → ⊥ = eqb-false y 1 none in
      omega arith
]

-- words with the same bits at a place are the same there
pub same_word : (words other : List ℕ) (k : ℕ) → get_or words k 0 < 2 ^ 64 → get_or other k 0 < 2 ^ 64
    → ((c : ℕ) → c / 64 ≡ k → is_set words c ≡ is_set other c) → get_or words k 0 ≡ get_or other k 0
same_word words other k fits other_fits same =
    same_from_bits_below 64 (get_or words k 0) (get_or other k 0) fits other_fits (λ i h.
    let e : eqb (bit_at (get_or words k 0) i) 1 ≡ eqb (bit_at (get_or other k 0) i) 1 =
    sym (set_as words k i h) ∙ same (64 * k + i) (omega arith) ∙ set_as other k i h in
    same_bit (bit_at (get_or words k 0) i) (bit_at (get_or other k 0) i) (bit_at-lt (get_or words k 0) i)
    (bit_at-lt (get_or other k 0) i) e)

-- a word with no bit is zero
pub zero_word : (words : List ℕ) (k : ℕ) → get_or words k 0 < 2 ^ 64 → ((c : ℕ) → c / 64 ≡ k → is_set words c ≡ false) → get_or words k 0 ≡ 0
zero_word words k fits none =
    let small : 0 < 2 ^ 64 = omega arith in
    same_word words [] k fits small (λ c e. none c e ∙ sym (zero_unset [] c refl))

xor_zero : (a b : ℕ) → b ≡ 0 → a ≡ bit_xor a b
xor_zero a b e = rw e (sym (xor_comm a 0))

pub none_added : (old other : List ℕ) → IsAddedBelow old other old 0
none_added old other = record {
  within = omega arith;
  long = refl;
  below = λ k h. absurd (omega arith);
  above = λ k h. refl;
}

-- all words that have a column
pub all_added : (old other new : List ℕ) (end : ℕ) → length old ≡ length other → ((k : ℕ) → Fits w64 (get_or other k 0)) → ((c : ℕ) → 64 * end ≤ c → is_set other c ≡ false)
    → IsAddedBelow old other new end → new ≡ zip2 bit_xor old other
all_added old other new end same fits clear added =
    let long : length (zip2 bit_xor old other) ≡ length old = length-zip2 bit_xor old other same in
    same_lists new (zip2 bit_xor old other) (added.long ∙ sym long) (λ k d h.
    let in_old : k < length old = omega (arith, added.long) in
    let is : get_or new k 0 ≡ bit_xor (get_or old k 0) (get_or other k 0) = elim (cases_lt k end) [
      | inl lt ↦ added.below k lt
      | inr ge ↦ added.above k ge ∙ xor_zero (get_or old k 0) (get_or other k 0) (zero_word other k (fits k).fits (λ c e. clear c (omega arith)))
    ] in
    get_or_default new k d 0 h ∙ is ∙ sym (get_or-zip2 bit_xor old other k 0 0 d in_old (omega arith)))

-- one more word
pub word_copied : (old other now : List ℕ) (at word : ℕ) → length old ≡ length other → at < length other → word ≡ get_or other at 0 → IsCopiedBelow old other now at
    → IsCopiedBelow old other (set now at word) (at + 1)
word_copied old other now at word same room e copied =
    let now_room : at < length now = omega (arith, copied.long) in
    record {
      within = omega arith;
      long = length-set now at word ∙ copied.long;
      below = λ k h. elim (cases_eq k at) [
        | inl here ↦
            let P : ℕ → Type 0 = λ i. get_or (set now at word) i 0 ≡ get_or other i 0 in
            subst P (sym here) (get_or-set_same now at word 0 now_room ∙ e)
        | inr other_place ↦ get_or-set_other now at k word 0 other_place ∙ copied.below k (omega arith)
      ];
      above = λ k h. get_or-set_other now at k word 0 (λ here. absurd (omega arith)) ∙ copied.above k (omega arith);
    }

-- all words of the other row that have a column, and as far as the old row has words that are not zero
pub all_copied : (old other new : List ℕ) (at end old_end : ℕ) → length old ≡ length other → ((k : ℕ) → old_end ≤ k → get_or old k 0 ≡ 0) → ((k : ℕ) → Fits w64 (get_or other k 0))
    → ((c : ℕ) → 64 * end ≤ c → is_set other c ≡ false)
    → end ≤ at → old_end ≤ at → IsCopiedBelow old other new at → new ≡ other
all_copied old other new at end old_end same old_zero fits clear past past_old copied =
    same_lists new other (copied.long ∙ same) (λ k d h.
    let in_other : k < length other = omega (arith, copied.long) in
    let is : get_or new k 0 ≡ get_or other k 0 = elim (cases_lt k at) [
      | inl lt ↦ copied.below k lt
      | inr ge ↦
          copied.above k ge ∙ old_zero k (omega arith)
          ∙ sym (zero_word other k (fits k).fits (λ c e. clear c (omega arith)))
    ] in
    get_or_default new k d 0 h ∙ is ∙ sym (get_or_default other k d 0 in_other))

-- words that are the same as far as either has a column
pub all_same : (words other : List ℕ) (end : ℕ) → length words ≡ length other → ((k : ℕ) → Fits w64 (get_or words k 0)) → ((k : ℕ) → Fits w64 (get_or other k 0))
    → ((c : ℕ) → 64 * end ≤ c → is_set words c ≡ false) → ((c : ℕ) → 64 * end ≤ c → is_set other c ≡ false)
    → ((k : ℕ) → k < end → get_or words k 0 ≡ get_or other k 0) → words ≡ other
all_same words other end same fits other_fits clear other_clear below =
    same_lists words other same (λ k d h.
    let in_other : k < length other = omega arith in
    let is : get_or words k 0 ≡ get_or other k 0 = elim (cases_lt k end) [
      | inl lt ↦ below k lt
      | inr ge ↦
          zero_word words k (fits k).fits (λ c e. clear c (omega arith))
          ∙ sym (zero_word other k (other_fits k).fits (λ c e. other_clear c (omega arith)))
    ] in
    get_or_default words k d 0 h ∙ is ∙ sym (get_or_default other k d 0 in_other))

-- ---- the highest one

-- a number from a power of 2 to the next has that power's bit
top_there : (word j : ℕ) → 2 ^ j ≤ word → word < 2 * 2 ^ j → bit_at word j ≡ 1
top_there word j low high =
    let is : 1 * 2 ^ j + (word - 2 ^ j) ≡ word = omega arith in
    let none : j - j ≡ 0 = omega arith in
    ap (λ n. bit_at n j) (sym is) ∙ bit_at_cat_high 1 j (word - 2 ^ j) j (omega arith) (omega arith) ∙ ap (λ i. bit_at 1 i) none ∙ refl

top_above : (word j i : ℕ) → word < 2 * 2 ^ j → j < i → bit_at word i ≡ 0
top_above word j i high above =
    let next : 2 ^ suc j ≡ 2 ^ j * 2 = pow-suc 2 j in
    bit_at_above word (suc j) i (omega arith) (omega arith)

low_kept : (b : ℕ) → b < 2 → min b 1 ≡ b
low_kept b h = omega arith

none_kept : (b : ℕ) → min b 0 ≡ 0
none_kept b = omega arith

-- the bits of a word below a place
masked_below : (word rest i : ℕ) → i < rest → bit_at (bit_and word (2 ^ rest - 1)) i ≡ bit_at word i
masked_below word rest i h =
    bit_at_and word (2 ^ rest - 1) i ∙ ap (λ x. min (bit_at word i) x) (bit_at_ones rest i h) ∙ low_kept (bit_at word i) (bit_at-lt word i)

masked_above : (word rest i : ℕ) → rest ≤ i → bit_at (bit_and word (2 ^ rest - 1)) i ≡ 0
masked_above word rest i h = bit_at_and word (2 ^ rest - 1) i ∙ ap (λ x. min (bit_at word i) x) (bit_at_ones_above rest i h) ∙ none_kept (bit_at word i)

set_there : (words : List ℕ) (at i : ℕ) → i < 64 → bit_at (get_or words at 0) i ≡ 1 → is_set words (64 * at + i) ≡ true
set_there words at i h e = set_as words at i h ∙ ap (λ b. eqb b 1) e

set_not : (words : List ℕ) (at c : ℕ) → c / 64 ≡ at → bit_at (get_or words at 0) (c % 64) ≡ 0 → is_set words c ≡ false
set_not words at c e none =
    let is : 64 * at + c % 64 ≡ c = omega arith in
    ap (λ d. is_set words d) (sym is) ∙ set_as words at (c % 64) (omega arith) ∙ ap (λ b. eqb b 1) none

-- the highest one of a word is the last one of the words up to it
pub last_of_word : (words : List ℕ) (at end b : ℕ) → 64 * (at + 1) ≤ end → ((c : ℕ) → 64 * (at + 1) ≤ c → c < end → is_set words c ≡ false)
    → b < 64 → 2 ^ b ≤ get_or words at 0 → get_or words at 0 < 2 * 2 ^ b → IsLastBelow (is_set words) end (64 * at + b)
last_of_word words at end b fits none within low high = record {
  below = omega arith;
  there = set_there words at b within (top_there (get_or words at 0) b low high);
  none_after = λ c after before. elim (cases_lt c (64 * (at + 1))) [
    | inl here ↦ set_not words at c (omega arith) (top_above (get_or words at 0) b (c % 64) high (omega arith))
    | inr past ↦ none c past before
  ];
}

-- a word that is zero has no column
pub none_in_word : (words : List ℕ) (at end : ℕ) → get_or words at 0 ≡ 0 → ((c : ℕ) → 64 * (at + 1) ≤ c → c < end → is_set words c ≡ false)
    → (c : ℕ) → 64 * at ≤ c → c < end → is_set words c ≡ false
none_in_word words at end e none c low high = elim (cases_lt c (64 * (at + 1))) [
  | inl here ↦ set_not words at c (omega arith) (ap (λ w. bit_at w (c % 64)) e ∙ bit_at-zero (c % 64))
  | inr past ↦ none c past high
]

-- the highest one of the part of a word below the end
pub last_of_part : (words : List ℕ) (at end b part : ℕ) → at ≡ end / 64 → part ≡ bit_and (get_or words at 0) (2 ^ (end % 64) - 1)
    → 2 ^ b ≤ part → part < 2 * 2 ^ b → IsLastBelow (is_set words) end (64 * at + b)
last_of_part words at end b part e is low high =
    let there : bit_at (bit_and (get_or words at 0) (2 ^ (end % 64) - 1)) b ≡ 1 = ap (λ w. bit_at w b) (sym is) ∙ top_there part b low high in
    let within : b < end % 64 = elim (cases_lt b (end % 64)) [
      | inl lt ↦ lt
      | inr ge ↦ (let zero_bit : bit_at (bit_and (get_or words at 0) (2 ^ (end % 64) - 1)) b ≡ 0 = masked_above (get_or words at 0) (end % 64) b ge in absurd (omega arith))
    ] in
    record {
      below = omega arith;
      there = set_there words at b (omega arith) (sym (masked_below (get_or words at 0) (end % 64) b within) ∙ there);
      none_after = λ c after before.
          set_not words at c (omega arith) (sym (masked_below (get_or words at 0) (end % 64) (c % 64) (omega arith)) ∙ ap (λ w. bit_at w (c % 64)) (sym is) ∙ top_above part b (c % 64) high (omega arith));
    }

-- the part of a word below the end has no column where it is zero
pub none_in_part : (words : List ℕ) (at end : ℕ) → at ≡ end / 64 → bit_and (get_or words at 0) (2 ^ (end % 64) - 1) ≡ 0
    → (c : ℕ) → 64 * at ≤ c → c < end → is_set words c ≡ false
none_in_part words at end e zero_part c low high =
    set_not words at c (omega arith) (sym (masked_below (get_or words at 0) (end % 64) (c % 64) (omega arith)) ∙ ap (λ w. bit_at w (c % 64)) zero_part ∙ bit_at-zero (c % 64))

-- the last one up to a place is the last one up to the end, where there is none between
pub last_wider : (words : List ℕ) (place end : ℕ) (o : Option ℕ) → place ≤ end → ((c : ℕ) → place ≤ c → c < end → is_set words c ≡ false)
    → MatchOption o ((c : ℕ) → c < place → is_set words c ≡ false) (λ b. IsLastBelow (is_set words) place b)
    → MatchOption o ((c : ℕ) → c < end → is_set words c ≡ false) (λ b. IsLastBelow (is_set words) end b)
last_wider words place end None fits none found = λ c h. elim (cases_lt c place) [ inl lt ↦ found c lt | inr ge ↦ none c ge h ]
last_wider words place end (Some b) fits none found = record {
  below = omega (arith, found.below);
  there = found.there;
  none_after = λ c after before. elim (cases_lt c place) [ inl lt ↦ found.none_after c after lt | inr ge ↦ none c ge before ];
}

-- ---- the lowest one from a place on

-- the bits of a word from a place on
shifted : (word rest i : ℕ) → bit_at (word / 2 ^ rest) i ≡ bit_at word (rest + i)
shifted word rest i = ap (λ n. n % 2) (div-div-eq-div-mul word (2 ^ rest) (2 ^ i) ∙ ap (λ p. word / p) (sym (pow-add 2 rest i)))

-- zero words from one on have no column
pub none_set_from : (words : List ℕ) (from at : ℕ) → ((c : ℕ) → 64 * at ≤ c → is_set words c ≡ false)
    → ((k : ℕ) → from ≤ k → k < at → get_or words k 0 ≡ 0) → (c : ℕ) → 64 * from ≤ c → is_set words c ≡ false
none_set_from words from at clear zeros c h = elim (cases_lt (c / 64) at) [
  | inl lt ↦ zero_unset words c (zeros (c / 64) (omega arith) lt)
  | inr ge ↦ clear c (omega arith)
]

-- the lowest one of the first word that is not zero, from one on
pub first_found_from : (words : List ℕ) (from at : ℕ) → from ≤ at → ((k : ℕ) → from ≤ k → k < at → get_or words k 0 ≡ 0)
    → 0 < get_or words at 0 → get_or words at 0 < 2 ^ 64
    → IsFirstFrom (is_set words) (64 * from) (64 * at + trailing_zeros w64 (get_or words at 0))
first_found_from words from at past zeros some fits =
    let found = bit_at-trailing_zeros w64 (get_or words at 0) some fits in
    let low : ℕ = trailing_zeros w64 (get_or words at 0) in
    let below : low < 64 = found.0 in
    record {
      from = omega arith;
      there = set_there words at low below found.1;
      none_before = λ c h before. elim (cases_lt (c / 64) at) [
        | inl lt ↦ zero_unset words c (zeros (c / 64) (omega arith) lt)
        | inr ge ↦ set_not words at c (omega arith) (found.2 (c % 64) (omega arith))
      ];
    }

-- the lowest one of the part of a word from the start on
pub first_of_part : (words : List ℕ) (start : ℕ) → 0 < get_or words (start / 64) 0 / 2 ^ (start % 64) → get_or words (start / 64) 0 < 2 ^ 64
    → IsFirstFrom (is_set words) start (start + trailing_zeros w64 (get_or words (start / 64) 0 / 2 ^ (start % 64)))
first_of_part words start some fits =
    let at : ℕ = start / 64 in
    let rest : ℕ = start % 64 in
    let word : ℕ = get_or words (start / 64) 0 in
    let found = bit_at-trailing_zeros w64 (word / 2 ^ rest) some (omega (arith, fits, div-le_self word (2 ^ rest))) in
    let low : ℕ = trailing_zeros w64 (word / 2 ^ rest) in
    let one : bit_at word (rest + low) ≡ 1 = sym (shifted word rest low) ∙ found.1 in
    let within : rest + low < 64 = elim (cases_lt (rest + low) 64) [
      | inl lt ↦ lt
      | inr ge ↦ (let zero_bit : bit_at word (rest + low) ≡ 0 = bit_at_above word 64 (rest + low) fits ge in absurd (omega arith))
    ] in
    let is : 64 * at + (rest + low) ≡ start + low = omega arith in
    record {
      from = omega arith;
      there = ap (λ c. is_set words c) (sym is) ∙ set_there words at (rest + low) within one;
      none_before = λ c h before.
          let gap : c - start < low = omega arith in
          let bit_in : rest + (c - start) ≡ c % 64 = omega arith in
          set_not words at c (omega arith) (ap (λ i. bit_at word i) (sym bit_in) ∙ sym (shifted word rest (c - start)) ∙ found.2 (c - start) gap);
    }

-- the first one from a place on is the first one from the start on, where the part of the start's word is zero
pub first_narrower : (words : List ℕ) (start : ℕ) (o : Option ℕ) → get_or words (start / 64) 0 / 2 ^ (start % 64) ≡ 0
    → MatchOption o ((c : ℕ) → 64 * (start / 64 + 1) ≤ c → is_set words c ≡ false) (λ b. IsFirstFrom (is_set words) (64 * (start / 64 + 1)) b)
    → MatchOption o ((c : ℕ) → start ≤ c → is_set words c ≡ false) (λ b. IsFirstFrom (is_set words) start b)
first_narrower words start o zero_part found = wider o found
  where
    here : (c : ℕ) → start ≤ c → c < 64 * (start / 64 + 1) → is_set words c ≡ false
    here c low high =
        let bit_in : start % 64 + (c - start) ≡ c % 64 = omega arith in
        set_not words (start / 64) c (omega arith)
        (ap (λ i. bit_at (get_or words (start / 64) 0) i) (sym bit_in) ∙ sym (shifted (get_or words (start / 64) 0) (start % 64) (c - start))
        ∙ ap (λ w. bit_at w (c - start)) zero_part ∙ bit_at-zero (c - start))

    wider : (p : Option ℕ) → MatchOption p ((c : ℕ) → 64 * (start / 64 + 1) ≤ c → is_set words c ≡ false) (λ b. IsFirstFrom (is_set words) (64 * (start / 64 + 1)) b)
        → MatchOption p ((c : ℕ) → start ≤ c → is_set words c ≡ false) (λ b. IsFirstFrom (is_set words) start b)
    wider None none = λ c h. elim (cases_lt c (64 * (start / 64 + 1))) [ inl lt ↦ here c h lt | inr ge ↦ none c ge ]
    wider (Some b) first = record {
      from = omega (arith, first.from);
      there = first.there;
      none_before = λ c h before. elim (cases_lt c (64 * (start / 64 + 1))) [ inl lt ↦ here c h lt | inr ge ↦ first.none_before c ge before ];
    }

-- where the `or` of words is zero, so is what it began with
start_zero : (words : List ℕ) (start : ℕ) → fold_l bit_or start words ≡ 0 → start ≡ 0
start_zero [] start e = e
start_zero (word ∷ words) start e = omega (arith, le_or_l start word, start_zero words (bit_or start word) e)

-- and each word
pub word_zero : (words : List ℕ) (start k : ℕ) → fold_l bit_or start words ≡ 0 → get_or words k 0 ≡ 0
word_zero [] start k e = refl
word_zero (word ∷ words) start zero e = omega (arith, le_or_r start word, start_zero words (bit_or start word) e)
word_zero (word ∷ words) start (suc k) e = word_zero words (bit_or start word) k e

-- the words of a block whose `or` is zero
pub block_zero : (words : List ℕ) (at k : ℕ) → fold_l bit_or 0 (chunk at 8 words) ≡ 0 → at ≤ k → k < at + 8 → get_or words k 0 ≡ 0
block_zero words at k e low high =
    let same : at + (k - at) ≡ k = omega arith in
    subst (λ i. get_or words i 0 ≡ 0) same (sym (get_or-chunk at 8 words (k - at) 0 (omega arith)) ∙ word_zero (chunk at 8 words) 0 (k - at) e)

-- numbers whose sum is zero are the same
sum_zero : (a b : ℕ) → bit_xor a b ≡ 0 → a ≡ b
sum_zero a b e = same_from_bits a b (λ i.
    let none : (bit_at a i + bit_at b i) % 2 ≡ 0 = sym (bit_at_xor a b i) ∙ ap (λ n. bit_at n i) e ∙ bit_at-zero i in
    omega (arith, bit_at-lt a i, bit_at-lt b i))

-- the words of two blocks where the `or` of their sums is zero
pub block_same : (words other : List ℕ) (at k : ℕ) → length words ≡ length other → at + 8 ≤ length other
    → fold_l bit_or 0 (zip2 bit_xor (chunk at 8 words) (chunk at 8 other)) ≡ 0 → at ≤ k → k < at + 8
    → get_or words k 0 ≡ get_or other k 0
block_same words other at k long room e low high =
    let words_8 : length (chunk at 8 words) ≡ 8 = length-chunk at 8 words (omega arith) in
    let other_8 : length (chunk at 8 other) ≡ 8 = length-chunk at 8 other room in
    let there : at + (k - at) ≡ k = omega arith in
    let sum : bit_xor (get_or (chunk at 8 words) (k - at) 0) (get_or (chunk at 8 other) (k - at) 0) ≡ 0 =
    sym (get_or-zip2 bit_xor (chunk at 8 words) (chunk at 8 other) (k - at) 0 0 0 (omega arith) (omega arith))
    ∙ word_zero (zip2 bit_xor (chunk at 8 words) (chunk at 8 other)) 0 (k - at) e in
    let same : get_or (chunk at 8 words) (k - at) 0 ≡ get_or (chunk at 8 other) (k - at) 0 =
    sum_zero (get_or (chunk at 8 words) (k - at) 0) (get_or (chunk at 8 other) (k - at) 0) sum in
    subst (λ i. get_or words i 0 ≡ get_or other i 0) there
    (sym (get_or-chunk at 8 words (k - at) 0 (omega arith)) ∙ same ∙ get_or-chunk at 8 other (k - at) 0 (omega arith))
