-- Words and the rows that they stand for.
use Rattle.std.proofs.Common.{◌≡◌, ◌⊎◌, ℕ, ◌+◌, ◌*◌, ◌<◌, ◌≤◌, zero, suc, Bool, true, false, List, [], ◌∷◌, ◌++◌, length, get_or, take, refl, sym, ap, ◌∙◌, subst, inl, inr, arith, true≢false}
use mathlib.Core.Path.{fun_ext}
use native.Mathlib.Nat.{eq-or-lt_of_le}
use Rattle.std.proofs.lemmas.Bool.{cases_lt}
use Rattle.std.proofs.lemmas.List.{take_all}
use Rattle.span_model.specs.Columns.{Columns, empty, ◌△◌}
use Rattle.span_model.specs.Span.{InSpan}
use Rattle.span_model.proofs.Sets.{△_comm, △-empty, △_cancel_right, △_empty_same, △_swap, △_shared}
use Rattle.span_model.proofs.Members.{empty_in, in_as, in_none, in_cases, in_sum, in_later, in_with, in_parts}
use Rattle.gf2_span.specs.Rows.{IsLast}
use Rattle.span_select.specs.Selection.{rows_of}
use Rattle.span_select.specs.Words.{unit, raised, IsReduced, StandsFor, IsUpTo, IsFrame, AreWords, AreKept}
use Rattle.span_select.proofs.Choosing.{rows_of_first, rows_of_one_more}
use Rattle.span_select.proofs.Lasts.{not_true, both_false, both_there, same_tests, one_there, last_unique, there_not_empty, last_below, reduced_sum, unit_here, unit_other, unit_is, raised_low, raised_sum, raised_empty, raised_none}

-- ---- a word stands for a row

pub stands_empty : (columns : ℕ) (basis : List (Columns ℕ)) → StandsFor columns basis empty empty
stands_empty columns basis = in_as basis (sym (△-empty (raised columns empty) ∙ raised_empty columns)) (empty_in basis)

pub stands_sum : (columns : ℕ) (basis : List (Columns ℕ)) (v w a b : Columns ℕ) → StandsFor columns basis v a → StandsFor columns basis w b → StandsFor columns basis (v △ w) (a △ b)
stands_sum columns basis v w a b x y =
    in_as basis (△_swap (raised columns a) v (raised columns b) w ∙ ap (λ (z : Columns ℕ). z △ (v △ w)) (sym (raised_sum columns a b)))
    (in_sum basis (raised columns a △ v) (raised columns b △ w) x y)

pub stands_row : (columns : ℕ) (basis : List (Columns ℕ)) (word a b : Columns ℕ) → a ≡ b → StandsFor columns basis word a → StandsFor columns basis word b
stands_row columns basis word a b e h = in_as basis (ap (λ (z : Columns ℕ). raised columns z △ word) e) h

pub stands_word : (columns : ℕ) (basis : List (Columns ℕ)) (v w row : Columns ℕ) → v ≡ w → StandsFor columns basis v row → StandsFor columns basis w row
stands_word columns basis v w row e h = in_as basis (ap (λ (z : Columns ℕ). raised columns row △ z) e) h

-- ---- words that are made of some basis rows

pub up_to_empty : (owners : List ℕ) (j : ℕ) → IsUpTo owners j empty
up_to_empty owners j c there = absurd (true≢false (sym there))

pub up_to_sum : (owners : List ℕ) (j : ℕ) (v w : Columns ℕ) → IsUpTo owners j v → IsUpTo owners j w → IsUpTo owners j (v △ w)
up_to_sum owners j v w x y c there = elim (one_there (v c) (w c) there) [ inl a ↦ x c a | inr b ↦ y c b ]

pub up_to_more : (owners : List ℕ) (i j : ℕ) (v : Columns ℕ) → i ≤ j → IsUpTo owners i v → IsUpTo owners j v
up_to_more owners i j v le h c there = let m = h c there in (m.0, omega (arith, m.1))

pub up_to_as : (owners : List ℕ) (j : ℕ) (v w : Columns ℕ) → v ≡ w → IsUpTo owners j v → IsUpTo owners j w
up_to_as owners j v w e h = let P : Columns ℕ → Type 0 = λ (x : Columns ℕ). IsUpTo owners j x in subst P e h

-- ---- members of the span of the basis words

module _ (columns : ℕ) (basis : List (Columns ℕ)) (owners : List ℕ) (frame : IsFrame columns basis owners) where
  -- a member is empty, or its last column is in the upper half
  pub frame_last : (w : Columns ℕ) → InSpan basis w → (w ≡ empty) ⊎ ((c : ℕ) × IsLast w c × (columns ≤ c))
  frame_last w member = elim (last_below (2 * columns) w (frame.within w member)) [
    | inl none ↦ inl none
    | inr some ↦ elim (cases_lt some.0 columns) [
      | inl low ↦ inl (frame.upper w member (λ d le. some.1.none_after d (omega arith)))
      | inr high ↦ inr (some.0, some.1, high)
    ]
  ]

  pub member_reduced : (w : Columns ℕ) → InSpan basis w → IsReduced basis w → w ≡ empty
  member_reduced w member reduced = elim (frame_last w member) [
    | inl none ↦ none
    | inr some ↦ absurd (true≢false (sym some.1.there ∙ reduced w some.0 member some.1))
  ]

  pub low_reduced : (w : Columns ℕ) → ((c : ℕ) → columns ≤ c → w c ≡ false) → IsReduced basis w
  low_reduced w low u c member last = elim (frame_last u member) [
    | inl none ↦ absurd (there_not_empty u c last.there none)
    | inr some ↦ (let same : some.0 ≡ c = last_unique u some.0 c some.1 last in low c (omega (arith, some.2)))
  ]

  pub up_to_low : (j : ℕ) (w : Columns ℕ) → IsUpTo owners j w → (c : ℕ) → columns ≤ c → w c ≡ false
  up_to_low j w h c le = not_true (w c) (λ there. let m = h c there in absurd (omega (arith, m.0, frame.few)))

  pub up_to_reduced : (j : ℕ) (w : Columns ℕ) → IsUpTo owners j w → IsReduced basis w
  up_to_reduced j w h = low_reduced w (up_to_low j w h)

  -- a word stands for one row
  pub one_row : (word a b : Columns ℕ) → StandsFor columns basis word a → StandsFor columns basis word b → a ≡ b
  one_row word a b x y =
      let member : InSpan basis (raised columns (a △ b)) =
      in_as basis (ap (λ (z : Columns ℕ). z △ (raised columns b △ word)) (△_comm (raised columns a) word) ∙ ap (λ (z : Columns ℕ). (word △ raised columns a) △ z) (△_comm (raised columns b) word)
      ∙ △_shared word (raised columns a) (raised columns b) ∙ sym (raised_sum columns a b))
      (in_sum basis (raised columns a △ word) (raised columns b △ word) x y) in
      sym (△_empty_same a b (raised_none columns (a △ b) (frame.lower (raised columns (a △ b)) member (λ c h. raised_low columns (a △ b) c h))))

  -- a row has one word that is reduced
  pub one_word : (v w row : Columns ℕ) → StandsFor columns basis v row → StandsFor columns basis w row → IsReduced basis v → IsReduced basis w → v ≡ w
  one_word v w row x y v_reduced w_reduced =
      let member : InSpan basis (v △ w) = in_as basis (△_shared (raised columns row) v w) (in_sum basis (raised columns row △ v) (raised columns row △ w) x y) in
      sym (△_empty_same v w (member_reduced (v △ w) member (reduced_sum basis v w v_reduced w_reduced)))

  -- the lower half of a word tells of basis rows
  pub word_known : (word row : Columns ℕ) → StandsFor columns basis word row → (c : ℕ) → length owners ≤ c → c < columns → word c ≡ false
  word_known word row stands c le lt =
      sym (same_tests (raised columns row c) (word c) (frame.known (raised columns row △ word) stands c le lt)) ∙ raised_low columns row c lt

-- ---- rows with their words

module _ (columns : ℕ) (basis : List (Columns ℕ)) (owners : List ℕ) (j : ℕ) where
  pub words_up : (rows words : List (Columns ℕ)) → AreWords columns basis owners j rows words → (row : Columns ℕ) → InSpan rows row
      → (word : Columns ℕ) × InSpan words word × StandsFor columns basis word row × IsUpTo owners j word
  words_up [] [] are row h =
      (empty, empty_in [], stands_row columns basis empty empty row (sym (in_none row h)) (stands_empty columns basis), up_to_empty owners j)
  words_up [] (word ∷ words) are row h = absurd are
  words_up (first ∷ rows) [] are row h = absurd are
  words_up (first ∷ rows) (word ∷ words) are row h = elim (in_cases first rows row h) [
    | inl without ↦ (let m = words_up rows words are.2 row without in (m.0, in_later word words m.0 m.1, m.2, m.3))
    | inr with ↦ (let m = words_up rows words are.2 with.0 with.1 in (
      word △ m.0,
      in_with word words m.0 m.1,
      stands_row columns basis (word △ m.0) (first △ with.0) row with.2 (stands_sum columns basis word m.0 first with.0 are.0 m.2),
      up_to_sum owners j word m.0 are.1 m.3,
    ))
  ]

  pub words_down : (rows words : List (Columns ℕ)) → AreWords columns basis owners j rows words → (word : Columns ℕ) → InSpan words word
      → (row : Columns ℕ) × InSpan rows row × StandsFor columns basis word row × IsUpTo owners j word
  words_down [] [] are word h =
      (empty, empty_in [], stands_word columns basis empty word empty (sym (in_none word h)) (stands_empty columns basis), up_to_as owners j empty word (sym (in_none word h)) (up_to_empty owners j))
  words_down [] (first ∷ words) are word h = absurd are
  words_down (row ∷ rows) [] are word h = absurd are
  words_down (row ∷ rows) (first ∷ words) are word h = elim (in_cases first words word h) [
    | inl without ↦ (let m = words_down rows words are.2 word without in (m.0, in_later row rows m.0 m.1, m.2, m.3))
    | inr with ↦ (let m = words_down rows words are.2 with.0 with.1 in (
      row △ m.0,
      in_with row rows m.0 m.1,
      stands_word columns basis (first △ with.0) word (row △ m.0) with.2 (stands_sum columns basis first with.0 row m.0 are.0 m.2),
      up_to_as owners j (first △ with.0) word with.2 (up_to_sum owners j first with.0 are.1 m.3),
    ))
  ]

  pub words_append : (rows words more_rows more_words : List (Columns ℕ)) → AreWords columns basis owners j rows words → AreWords columns basis owners j more_rows more_words
      → AreWords columns basis owners j (rows ++ more_rows) (words ++ more_words)
  words_append [] [] more_rows more_words are more = more
  words_append [] (word ∷ words) more_rows more_words are more = absurd are
  words_append (row ∷ rows) [] more_rows more_words are more = absurd are
  words_append (row ∷ rows) (word ∷ words) more_rows more_words are more = (are.0, are.1, words_append rows words more_rows more_words are.2 more)

-- ---- the first groups

module _ (columns : ℕ) (groups words : List (List (Columns ℕ))) (basis : List (Columns ℕ)) (owners : List ℕ) (kept : AreKept columns groups words basis owners) where
  -- what the first groups span has a word that is made of their basis rows
  pub first_groups_word : (j : ℕ) (row : Columns ℕ) → InSpan (rows_of (take j groups)) row → (word : Columns ℕ) × StandsFor columns basis word row × IsUpTo owners j word
  first_groups_word zero row h = (empty, stands_row columns basis empty empty row (sym (in_none row h)) (stands_empty columns basis), up_to_empty owners zero)
  first_groups_word (suc j) row h = elim (cases_lt j (length groups)) [
    | inl inside ↦
        let e : suc j ≡ j + 1 = omega arith in
        let P : ℕ → Type 0 = λ i. InSpan (rows_of (take i groups)) row in
        let Q : List (Columns ℕ) → Type 0 = λ (x : List (Columns ℕ)). InSpan x row in
        let parts = in_parts (rows_of (take j groups)) (get_or groups j []) row (subst Q (rows_of_one_more groups j inside) (subst P e h)) in
        let earlier = first_groups_word j parts.0 parts.2 in
        let here = words_up columns basis owners (j + 1) (get_or groups j []) (get_or words j []) (kept.worded j inside) parts.1 parts.3 in (
          earlier.0 △ here.0,
          stands_row columns basis (earlier.0 △ here.0) (parts.0 △ parts.1) row parts.4 (stands_sum columns basis earlier.0 here.0 parts.0 parts.1 earlier.1 here.2),
          up_to_sum owners (suc j) earlier.0 here.0 (up_to_more owners j (suc j) earlier.0 (omega arith) earlier.2) (up_to_more owners (j + 1) (suc j) here.0 (omega arith) here.3),
        )
    | inr past ↦
        let all : take (suc j) groups ≡ groups = take_all (suc j) groups (omega arith) in
        let some : take j groups ≡ groups = take_all j groups past in
        let P : List (List (Columns ℕ)) → Type 0 = λ (x : List (List (Columns ℕ))). InSpan (rows_of x) row in
        let earlier = first_groups_word j row (subst P (all ∙ sym some) h) in
        (earlier.0, earlier.1, up_to_more owners j (suc j) earlier.0 (omega arith) earlier.2)
  ]

  -- a word that is made of basis rows of the first groups stands for what they span, column by column from the last one
  last_column : (j n : ℕ) (word : Columns ℕ) → IsUpTo owners j word → ((c : ℕ) → suc n ≤ c → word c ≡ false)
      → ((w : Columns ℕ) → IsUpTo owners j w → ((c : ℕ) → n ≤ c → w c ≡ false) → (row : Columns ℕ) × InSpan (rows_of (take j groups)) row × StandsFor columns basis w row)
      → (b : Bool) → word n ≡ b → (row : Columns ℕ) × InSpan (rows_of (take j groups)) row × StandsFor columns basis word row
  last_column j n word up_to above less false e = less word up_to (λ c le. elim (eq-or-lt_of_le le) [
    | inl same ↦ subst (λ (k : ℕ). word k ≡ false) same e
    | inr lt ↦ above c lt
  ])
  last_column j n word up_to above less true e =
      let here = up_to n e in
      let given = kept.owned.given n here.0 in
      let unit_up_to : IsUpTo owners j (unit n) = λ c there. subst (λ (k : ℕ). (k < length owners) × (get_or owners k 0 < j)) (sym (unit_is n c there)) here in
      let rest = less (word △ unit n) (up_to_sum owners j word (unit n) up_to unit_up_to) (λ c le. elim (eq-or-lt_of_le le) [
        | inl same ↦ subst (λ (k : ℕ). (word △ unit n) k ≡ false) same (both_there (word n) (unit n n) e (unit_here n))
        | inr lt ↦ both_false (word c) (unit n c) (above c lt) (unit_other n c (λ same. omega arith))
      ]) in
      let owner : get_or owners n 0 + 1 ≤ j = omega (arith, here.1) in
      let given_in : InSpan (rows_of (take j groups)) given.0 = rows_of_first groups (get_or owners n 0 + 1) j owner given.0 given.1 in (
        rest.0 △ given.0,
        in_sum (rows_of (take j groups)) rest.0 given.0 rest.1 given_in,
        stands_word columns basis ((word △ unit n) △ unit n) word (rest.0 △ given.0) (△_cancel_right word (unit n))
            (stands_sum columns basis (word △ unit n) (unit n) rest.0 given.0 rest.2 given.2),
      )

  below_row : (j n : ℕ) (word : Columns ℕ) → IsUpTo owners j word → ((c : ℕ) → n ≤ c → word c ≡ false) → (row : Columns ℕ) × InSpan (rows_of (take j groups)) row × StandsFor columns basis word row
  below_row j zero word up_to above =
      let none : empty ≡ word = fun_ext (λ c. sym (above c (omega arith))) in
      (empty, empty_in (rows_of (take j groups)), stands_word columns basis empty word empty none (stands_empty columns basis))
  below_row j (suc n) word up_to above = last_column j n word up_to above (λ w. below_row j n w) (word n) refl

  pub first_groups_row : (j : ℕ) (word : Columns ℕ) → IsUpTo owners j word → (row : Columns ℕ) × InSpan (rows_of (take j groups)) row × StandsFor columns basis word row
  first_groups_row j word up_to = below_row j columns word up_to (up_to_low columns basis owners kept.frame j word up_to)
