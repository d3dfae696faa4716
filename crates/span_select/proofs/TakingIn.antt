-- A row that the basis does not span is put into it; a group that was taken in is one more group that is kept.
use Rattle.std.proofs.Common.{◌≡◌, ◌⊎◌, ℕ, ◌+◌, ◌-◌, ◌*◌, ◌<◌, ◌≤◌, Bool, true, false, List, [], ◌∷◌, ◌++◌, length, get_or, take, map, All, refl, sym, ap, ◌∙◌, subst, inl, inr, arith, true≢false}
use Rattle.std.specs.Bool.{MatchBool}
use Rattle.std.proofs.lemmas.Bool.{cases_lt, cases_eq}
use Rattle.std.proofs.lemmas.List.{take_all, take-append-le, length-map, length_push, get_or_past, get_or-map, get_or_append_left, get_or_push, map_push}
use Rattle.span_model.specs.Columns.{Columns, empty, ◌△◌, set_of, sets_of}
use Rattle.span_model.specs.Span.{difference, InSpan, Spans, SameSpan, IsIndependent}
use Rattle.span_model.proofs.Sets.{△_assoc, △_cancel}
use Rattle.span_model.proofs.Members.{in_as, in_none, in_cases, in_sum, in_head, in_later, in_behind, in_front, all_in}
use Rattle.span_model.proofs.Ranks.{independent_behind, below_columns}
use Rattle.gf2_span.specs.Rows.{IsLast}
use Rattle.span_select.specs.Selection.{rows_of}
use Rattle.span_select.specs.Words.{unit, raised, IsReduced, StandsFor, IsUpTo, IsFrame, AreWords, TakesIn, AreKept, IsKept}
use Rattle.span_select.proofs.Choosing.{rows_of-append}
use Rattle.span_select.proofs.Lasts.{both_false, first_stays, second_only, same_tests, unit_here, unit_other, unit_is}
use Rattle.span_select.proofs.Standing.{frame_last, word_known, words_append}

-- ---- what stays while the basis grows

stands_grown : (columns : ℕ) (basis new_basis : List (Columns ℕ)) (word row : Columns ℕ) → Spans new_basis basis → StandsFor columns basis word row → StandsFor columns new_basis word row
stands_grown columns basis new_basis word row grown h = grown (raised columns row △ word) h

up_to_grown : (owners new_owners : List ℕ) (j : ℕ) (word : Columns ℕ) → length owners ≤ length new_owners → ((i : ℕ) → i < length owners → get_or new_owners i 0 ≡ get_or owners i 0)
    → IsUpTo owners j word → IsUpTo new_owners j word
up_to_grown owners new_owners j word more old h c there = let m = h c there in (omega (arith, m.0), omega (arith, m.1, old c m.0))

pub words_grown : (columns : ℕ) (basis new_basis : List (Columns ℕ)) (owners new_owners : List ℕ) (j : ℕ) (rows words : List (Columns ℕ)) → Spans new_basis basis → length owners ≤ length new_owners
    → ((i : ℕ) → i < length owners → get_or new_owners i 0 ≡ get_or owners i 0) → AreWords columns basis owners j rows words → AreWords columns new_basis new_owners j rows words
words_grown columns basis new_basis owners new_owners j [] [] grown more old are = tt
words_grown columns basis new_basis owners new_owners j [] (word ∷ words) grown more old are = absurd are
words_grown columns basis new_basis owners new_owners j (row ∷ rows) [] grown more old are = absurd are
words_grown columns basis new_basis owners new_owners j (row ∷ rows) (word ∷ words) grown more old are =
    (stands_grown columns basis new_basis word row grown are.0, up_to_grown owners new_owners j word more old are.1, words_grown columns basis new_basis owners new_owners j rows words grown more old are.2)

-- ---- rows that are taken in one after the other

pub takes_more : (columns group : ℕ) (basis : List (Columns ℕ)) (owners : List ℕ) (mid_basis : List (Columns ℕ)) (mid_owners : List ℕ) (new_basis : List (Columns ℕ)) (new_owners : List ℕ) (rows words more_rows more_words : List (Columns ℕ))
    → TakesIn columns group basis owners mid_basis mid_owners rows words → TakesIn columns group mid_basis mid_owners new_basis new_owners more_rows more_words
    → TakesIn columns group basis owners new_basis new_owners (rows ++ more_rows) (words ++ more_words)
takes_more columns group basis owners mid_basis mid_owners new_basis new_owners rows words more_rows more_words first second = record {
  grown = λ w h. second.grown w (first.grown w h);
  worded = words_append columns new_basis new_owners (group + 1) rows words more_rows more_words
      (words_grown columns mid_basis new_basis mid_owners new_owners (group + 1) rows words second.grown second.more second.old first.worded) second.worded;
  more = omega (arith, first.more, second.more);
  old = λ i h. second.old i (omega (arith, first.more)) ∙ first.old i h;
  new = λ i le lt. elim (cases_lt i (length mid_owners)) [
    | inl less ↦ second.old i less ∙ first.new i le less
    | inr past ↦ second.new i past lt
  ];
  given = λ i le lt. elim (cases_lt i (length mid_owners)) [
    | inl less ↦ (let m = first.given i le less in (m.0, in_behind rows more_rows m.0 m.1, stands_grown columns mid_basis new_basis (unit i) m.0 second.grown m.2))
    | inr past ↦ (let m = second.given i past lt in (m.0, in_front rows more_rows m.0 m.1, m.2))
  ];
}

-- ---- a row of which nothing is left

module _ (columns : ℕ) (basis : List (Columns ℕ)) (owners : List ℕ) (group : ℕ) (frame : IsFrame columns basis owners) (last_group : All (λ owner. owner ≤ group) owners) (word row : Columns ℕ) (stands : StandsFor columns basis word row) where
  pub nothing_left : ((c : ℕ) → columns ≤ c → word c ≡ false) → TakesIn columns group basis owners basis owners (row ∷ []) (word ∷ [])
  nothing_left low = record {
    grown = λ w h. h;
    worded = (stands, up_to, tt);
    more = omega arith;
    old = λ i h. refl;
    new = λ i le lt. absurd (omega arith);
    given = λ i le lt. absurd (omega arith);
  }
    where
      up_to : IsUpTo owners (group + 1) word
      up_to c there = elim (cases_lt c columns) [
        | inl lt ↦ elim (cases_lt c (length owners)) [
          | inl inside ↦ (inside, omega (arith, last_group c 0 inside))
          | inr past ↦ absurd (true≢false (sym there ∙ word_known columns basis owners frame word row stands c past lt))
        ]
        | inr high ↦ absurd (true≢false (sym there ∙ low c high))
      ]

-- ---- a row of which something is left

module _ (columns : ℕ) (basis : List (Columns ℕ)) (owners : List ℕ) (group : ℕ) (frame : IsFrame columns basis owners) (last_group : All (λ owner. owner ≤ group) owners) (word row : Columns ℕ) (stands : StandsFor columns basis word row)
    (reduced : IsReduced basis word) (bounded : (c : ℕ) → 2 * columns ≤ c → word c ≡ false) (c : ℕ) (last : IsLast word c) (high : columns ≤ c) where
  -- no member has the same upper half
  other_upper : (u : Columns ℕ) → InSpan basis u → ((d : ℕ) → columns ≤ d → word d ≡ u d) → ⊥
  other_upper u member same = elim (frame_last columns basis owners frame u member) [
    | inl none ↦ true≢false (sym last.there ∙ same c high ∙ ap (λ (x : Columns ℕ). x c) none)
    | inr some ↦ true≢false (sym some.1.there ∙ sym (same some.0 some.2) ∙ reduced u some.0 member some.1)
  ]

  -- the upper half as a set of its own
  abbrev lowered : Columns ℕ → Columns ℕ
  lowered w d = w (columns + d)

  difference-lowered : (picks : List Bool) (rows : List (Columns ℕ)) → difference picks (map lowered rows) ≡ lowered (difference picks rows)
  difference-lowered [] rows = refl
  difference-lowered (pick ∷ picks) [] = refl
  difference-lowered (true ∷ picks) (first ∷ rows) = ap (λ (x : Columns ℕ). lowered first △ x) (difference-lowered picks rows)
  difference-lowered (false ∷ picks) (first ∷ rows) = difference-lowered picks rows

  upper_at : (w : Columns ℕ) (d : ℕ) → columns ≤ d → w d ≡ lowered w (d - columns)
  upper_at w d le = ap w (let e : d ≡ columns + (d - columns) = omega arith in e)

  independent_lowered : IsIndependent basis → IsIndependent (map lowered basis)
  independent_lowered independent picks e k h =
      independent picks
      (frame.upper (difference picks basis) (picks, refl) (λ d le. upper_at (difference picks basis) d le ∙ ap (λ (x : Columns ℕ). x (d - columns)) (sym (difference-lowered picks basis) ∙ e)))
      k (omega (arith, length-map basis lowered))

  outside_lowered : ¬ InSpan (map lowered basis) (lowered word)
  outside_lowered (picks, e) =
      other_upper (difference picks basis) (picks, refl) (λ d le.
      upper_at word d le ∙ ap (λ (x : Columns ℕ). x (d - columns)) (sym e ∙ difference-lowered picks basis) ∙ sym (upper_at (difference picks basis) d le))

  below_lowered : All (λ (x : Columns ℕ). (d : ℕ) → columns ≤ d → x d ≡ false) (map lowered basis ++ lowered word ∷ [])
  below_lowered k e h = elim (cases_lt k (length basis)) [
    | inl less ↦
        let inside : k < length (map lowered basis) = omega (arith, length-map basis lowered) in
        let is : get_or (map lowered basis ++ lowered word ∷ []) k e ≡ lowered (get_or basis k empty) =
        get_or_append_left (map lowered basis) (lowered word ∷ []) e k inside ∙ get_or-map lowered basis k empty e less in
        (λ d le. ap (λ (x : Columns ℕ). x d) is ∙ frame.within (get_or basis k empty) (all_in basis k empty less) (columns + d) (omega arith))
    | inr past ↦
        let at : length (map lowered basis) ≡ k = omega (arith, length-map basis lowered, length_push (map lowered basis) (lowered word)) in
        let is : get_or (map lowered basis ++ lowered word ∷ []) k e ≡ lowered word = get_or_push (map lowered basis) (lowered word) e k at in
        (λ d le. ap (λ (x : Columns ℕ). x d) is ∙ bounded (columns + d) (omega arith))
  ]

  -- there is a column for one more basis row
  pub room : IsIndependent basis → length owners < columns
  room independent =
      let most : length (map lowered basis ++ lowered word ∷ []) ≤ columns =
      below_columns columns (map lowered basis ++ lowered word ∷ []) below_lowered (independent_behind (map lowered basis) (lowered word) (independent_lowered independent) outside_lowered) in
      omega (arith, length_push (map lowered basis) (lowered word), length-map basis lowered, frame.rank)

  module _ (place : length owners < columns) where
    -- the basis word of the row
    abbrev fresh : Columns ℕ
    fresh = word △ unit (length owners)

    unknown : (w : Columns ℕ) → InSpan basis w → w (length owners) ≡ false
    unknown w member = frame.known w member (length owners) (omega arith) place

    word_unknown : word (length owners) ≡ false
    word_unknown = word_known columns basis owners frame word row stands (length owners) (omega arith) place

    fresh_own : fresh (length owners) ≡ true
    fresh_own = second_only (word (length owners)) (unit (length owners) (length owners)) word_unknown (unit_here (length owners))

    pub fresh_outside : ¬ InSpan basis (word △ unit (length owners))
    fresh_outside member = true≢false (sym fresh_own ∙ unknown fresh member)

    fresh_other : (d : ℕ) → (d ≡ length owners → ⊥) → fresh d ≡ word d
    fresh_other d other = first_stays (word d) (unit (length owners) d) (unit_other (length owners) d other)

    module _ (new_basis : List (Columns ℕ)) (spanned : SameSpan new_basis ((word △ unit (length owners)) ∷ basis)) (rank : length new_basis ≡ length basis + 1) where
      new_member : (w : Columns ℕ) → InSpan new_basis w → InSpan basis w ⊎ ((u : Columns ℕ) × InSpan basis u × (fresh △ u ≡ w))
      new_member w member = in_cases fresh basis w ((spanned w).0 member)

      -- what holds of members of the old span, and with the fresh word too
      none_at : (d : ℕ) → fresh d ≡ false → ((u : Columns ℕ) → InSpan basis u → u d ≡ false) → (w : Columns ℕ) → InSpan new_basis w → w d ≡ false
      none_at d here old w member = elim (new_member w member) [
        | inl m ↦ old w m
        | inr m ↦ ap (λ (x : Columns ℕ). x d) (sym m.2) ∙ both_false (fresh d) (m.0 d) here (old m.0 m.1)
      ]

      old_owner : (i : ℕ) → i < length owners → get_or (owners ++ group ∷ []) i 0 ≡ get_or owners i 0
      old_owner i h = get_or_append_left owners (group ∷ []) 0 i h

      new_owner : (i : ℕ) → i ≡ length owners → get_or (owners ++ group ∷ []) i 0 ≡ group
      new_owner i e = get_or_push owners group 0 i (sym e)

      pub fresh_frame : IsFrame columns new_basis (owners ++ group ∷ [])
      fresh_frame =
          let longer : length (owners ++ group ∷ []) ≡ length owners + 1 = length_push owners group in
          record {
            within = λ w member d le. none_at d (fresh_other d (λ e. omega arith) ∙ bounded d le) (λ u m. frame.within u m d le) w member;
            known = λ w member d le lt. none_at d (fresh_other d (λ e. omega arith) ∙ word_known columns basis owners frame word row stands d (omega arith) lt) (λ u m. frame.known u m d (omega arith) lt) w member;
            upper = λ w member none. elim (new_member w member) [
              | inl m ↦ frame.upper w m none
              | inr m ↦ absurd (other_upper m.0 m.1 (λ d le.
                  sym (fresh_other d (λ e. omega arith)) ∙ same_tests (fresh d) (m.0 d) (ap (λ (x : Columns ℕ). x d) m.2 ∙ none d le)))
            ];
            lower = λ w member none. elim (new_member w member) [
              | inl m ↦ frame.lower w m none
              | inr m ↦ absurd (true≢false (sym fresh_own ∙ same_tests (fresh (length owners)) (m.0 (length owners)) (ap (λ (x : Columns ℕ). x (length owners)) m.2 ∙ none (length owners) place) ∙ unknown m.0 m.1))
            ];
            rank = omega (arith, rank, longer, frame.rank);
            few = omega (arith, longer, place);
            rising = λ i j le lt. elim (cases_lt j (length owners)) [
              | inl less ↦ (let before : i < length owners = omega arith in omega (arith, frame.rising i j le less, old_owner i before, old_owner j less))
              | inr past ↦ elim (cases_lt i (length owners)) [
                | inl before ↦ omega (arith, last_group i 0 before, old_owner i before, new_owner j (omega arith))
                | inr at ↦ omega (arith, new_owner i (omega arith), new_owner j (omega arith))
              ]
            ];
          }

      fresh_stands : StandsFor columns new_basis (unit (length owners)) row
      fresh_stands =
          let old_in : InSpan new_basis (raised columns row △ word) = (spanned (raised columns row △ word)).1 (in_later fresh basis (raised columns row △ word) stands) in
          let new_in : InSpan new_basis fresh = (spanned fresh).1 (in_head fresh basis) in
          in_as new_basis
          (△_assoc (raised columns row) word fresh ∙ ap (λ (x : Columns ℕ). raised columns row △ x) (△_cancel word (unit (length owners))))
          (in_sum new_basis (raised columns row △ word) fresh old_in new_in)

      pub fresh_taken : TakesIn columns group basis owners new_basis (owners ++ group ∷ []) (row ∷ []) (unit (length owners) ∷ [])
      fresh_taken =
          let longer : length (owners ++ group ∷ []) ≡ length owners + 1 = length_push owners group in
          record {
            grown = λ w member. (spanned w).1 (in_later fresh basis w member);
            worded = (fresh_stands, (λ d there. let e : d ≡ length owners = unit_is (length owners) d there in (omega (arith, longer), omega (arith, new_owner d e))), tt);
            more = omega (arith, longer);
            old = old_owner;
            new = λ i le lt. new_owner i (omega (arith, longer));
            given = λ i le lt. (row, in_head row [], subst (λ (k : ℕ). StandsFor columns new_basis (unit k) row) (let e : length owners ≡ i = omega (arith, longer) in e) fresh_stands);
          }

-- ---- a group that was taken in

pub none_kept : (columns : ℕ) → AreKept columns [] [] [] []
none_kept columns = record {
  frame = record {
    within = λ w member c le. ap (λ (x : Columns ℕ). x c) (in_none w member);
    known = λ w member c le lt. ap (λ (x : Columns ℕ). x c) (in_none w member);
    upper = λ w member none. in_none w member;
    lower = λ w member none. in_none w member;
    rank = refl;
    few = omega arith;
    rising = λ i j le lt. absurd (omega arith);
  };
  owned = record { in_groups = λ i h. absurd (omega arith); given = λ i h. absurd (omega arith) };
  as_many = refl;
  worded = λ g h. absurd (omega arith);
}

pub kept_more : (columns : ℕ) (groups words : List (List (Columns ℕ))) (basis : List (Columns ℕ)) (owners : List ℕ) (new_basis : List (Columns ℕ)) (new_owners : List ℕ) (rows row_words : List (Columns ℕ))
    → AreKept columns groups words basis owners → IsFrame columns new_basis new_owners → TakesIn columns (length groups) basis owners new_basis new_owners rows row_words
    → AreKept columns (groups ++ rows ∷ []) (words ++ row_words ∷ []) new_basis new_owners
kept_more columns groups words basis owners new_basis new_owners rows row_words kept frame taken =
    let longer : length (groups ++ rows ∷ []) ≡ length groups + 1 = length_push groups rows in
    record {
      frame = frame;
      owned = record {
        in_groups = λ i h. elim (cases_lt i (length owners)) [
          | inl less ↦ omega (arith, longer, taken.old i less, kept.owned.in_groups i less)
          | inr past ↦ omega (arith, longer, taken.new i past h)
        ];
        given = λ i h. elim (cases_lt i (length owners)) [
          | inl less ↦
              let m = kept.owned.given i less in
              let fits : get_or owners i 0 + 1 ≤ length groups = omega (arith, kept.owned.in_groups i less) in
              let same : take (get_or owners i 0 + 1) (groups ++ rows ∷ []) ≡ take (get_or owners i 0 + 1) groups = take-append-le (get_or owners i 0 + 1) groups (rows ∷ []) fits in
              let P : List (List (Columns ℕ)) → Type 0 = λ (x : List (List (Columns ℕ))). InSpan (rows_of x) m.0 in
              let Q : ℕ → Type 0 = λ (k : ℕ). InSpan (rows_of (take (k + 1) (groups ++ rows ∷ []))) m.0 in
              (m.0, subst Q (sym (taken.old i less)) (subst P (sym same) m.1), stands_grown columns basis new_basis (unit i) m.0 taken.grown m.2)
          | inr past ↦
              let m = taken.given i past h in
              let all : take (length groups + 1) (groups ++ rows ∷ []) ≡ groups ++ rows ∷ [] = take_all (length groups + 1) (groups ++ rows ∷ []) (omega (arith, longer)) in
              let P : List (List (Columns ℕ)) → Type 0 = λ (x : List (List (Columns ℕ))). InSpan (rows_of x) m.0 in
              let Q : ℕ → Type 0 = λ (k : ℕ). InSpan (rows_of (take (k + 1) (groups ++ rows ∷ []))) m.0 in
              let R : List (Columns ℕ) → Type 0 = λ (x : List (Columns ℕ)). InSpan x m.0 in
              let there : InSpan (rows_of groups ++ (rows ++ [])) m.0 = in_front (rows_of groups) (rows ++ []) m.0 (in_behind rows [] m.0 m.1) in
              (m.0, subst Q (sym (taken.new i past h)) (subst P (sym all) (subst R (sym (rows_of-append groups (rows ∷ []))) there)), m.2)
        ];
      };
      as_many = omega (arith, longer, length_push words row_words, kept.as_many);
      worded = λ g h. elim (cases_lt g (length groups)) [
        | inl less ↦
            let in_words : g < length words = omega (arith, kept.as_many) in
            let P : List (Columns ℕ) → Type 0 = λ (x : List (Columns ℕ)). AreWords columns new_basis new_owners (g + 1) x (get_or (words ++ row_words ∷ []) g []) in
            let Q : List (Columns ℕ) → Type 0 = λ (x : List (Columns ℕ)). AreWords columns new_basis new_owners (g + 1) (get_or groups g []) x in
            subst P (sym (get_or_append_left groups (rows ∷ []) [] g less)) (subst Q (sym (get_or_append_left words (row_words ∷ []) [] g in_words))
            (words_grown columns basis new_basis owners new_owners (g + 1) (get_or groups g []) (get_or words g []) taken.grown taken.more taken.old (kept.worded g less)))
        | inr past ↦
            let at : length groups ≡ g = omega (arith, longer) in
            let in_words : length words ≡ g = omega (arith, kept.as_many) in
            let P : List (Columns ℕ) → Type 0 = λ (x : List (Columns ℕ)). AreWords columns new_basis new_owners (g + 1) x (get_or (words ++ row_words ∷ []) g []) in
            let Q : List (Columns ℕ) → Type 0 = λ (x : List (Columns ℕ)). AreWords columns new_basis new_owners (g + 1) rows x in
            let R : ℕ → Type 0 = λ (k : ℕ). AreWords columns new_basis new_owners (k + 1) rows row_words in
            subst P (sym (get_or_push groups rows [] g at)) (subst Q (sym (get_or_push words row_words [] g in_words)) (subst R at taken.worded))
      ];
    }

-- the words of one group more are as wide
pub wide_more : (columns : ℕ) (words : List (List (List Bool))) (more : List (List Bool)) → ((g : ℕ) → All (λ word. length word ≡ columns) (get_or words g []))
    → All (λ word. length word ≡ columns) more → (g : ℕ) → All (λ word. length word ≡ columns) (get_or (words ++ more ∷ []) g [])
wide_more columns words more wide here g = elim (cases_lt g (length words)) [
  | inl less ↦ (let P : List (List Bool) → Type 0 = λ (x : List (List Bool)). All (λ word. length word ≡ columns) x in subst P (sym (get_or_append_left words (more ∷ []) [] g less)) (wide g))
  | inr past ↦ elim (cases_eq g (length words)) [
    | inl same ↦ (let P : List (List Bool) → Type 0 = λ (x : List (List Bool)). All (λ word. length word ≡ columns) x in subst P (sym (get_or_push words more [] g (sym same))) here)
    | inr other ↦
        let P : List (List Bool) → Type 0 = λ (x : List (List Bool)). All (λ word. length word ≡ columns) x in
        let beyond : length (words ++ more ∷ []) ≤ g = omega (arith, length_push words more) in
        subst P (sym (get_or_past (words ++ more ∷ []) g [] beyond)) (λ k d h. absurd (omega arith))
  ]
]

-- ---- rows of bits

-- what is known once the basis took a row in
pub fresh_in : (columns : ℕ) (rows : List (List Bool)) (owners : List ℕ) (group : ℕ) (frame : IsFrame columns (sets_of rows) owners) → All (λ owner. owner ≤ group) owners
    → (word new_word own : List Bool) (row : Columns ℕ) → StandsFor columns (sets_of rows) (set_of word) row → IsReduced (sets_of rows) (set_of word) → length word ≡ 2 * columns
    → (c : ℕ) → IsLast (set_of word) c → columns ≤ c → IsIndependent (sets_of rows)
    → (coordinate : ℕ) → coordinate ≡ length rows → set_of own ≡ unit coordinate → set_of new_word ≡ set_of word △ set_of own
    → (new_rows : List (List Bool)) → SameSpan (sets_of new_rows) (set_of new_word ∷ sets_of rows) → (Old : Type 0) (fresh : Bool)
    → MatchBool fresh (¬ InSpan (sets_of rows) (set_of new_word)) (InSpan (sets_of rows) (set_of new_word)) → MatchBool fresh (length new_rows ≡ length rows + 1) Old
    → IsFrame columns (sets_of new_rows) (owners ++ group ∷ []) × TakesIn columns group (sets_of rows) owners (sets_of new_rows) (owners ++ group ∷ []) (row ∷ []) (set_of own ∷ [])
fresh_in columns rows owners group frame last_group word new_word own row stands reduced wide c last high independent coordinate at own_is new_is new_rows spanned Old fresh answer rank =
    by_answer fresh answer rank
  where
    bounded : (d : ℕ) → 2 * columns ≤ d → set_of word d ≡ false
    bounded d le = get_or_past word d false (omega arith)

    place : length owners < columns
    place = room columns (sets_of rows) owners group frame last_group (set_of word) row stands reduced bounded c last high independent

    coordinate_is : coordinate ≡ length owners
    coordinate_is = at ∙ sym (length-map rows set_of) ∙ frame.rank

    unit_is_own : set_of own ≡ unit (length owners)
    unit_is_own = own_is ∙ ap unit coordinate_is

    fresh_is : set_of new_word ≡ set_of word △ unit (length owners)
    fresh_is = new_is ∙ ap (λ (x : Columns ℕ). set_of word △ x) unit_is_own

    spanned_as : SameSpan (sets_of new_rows) ((set_of word △ unit (length owners)) ∷ sets_of rows)
    spanned_as = let P : Columns ℕ → Type 0 = λ (x : Columns ℕ). SameSpan (sets_of new_rows) (x ∷ sets_of rows) in subst P fresh_is spanned

    by_answer : (b : Bool) → MatchBool b (¬ InSpan (sets_of rows) (set_of new_word)) (InSpan (sets_of rows) (set_of new_word)) → MatchBool b (length new_rows ≡ length rows + 1) Old
        → IsFrame columns (sets_of new_rows) (owners ++ group ∷ []) × TakesIn columns group (sets_of rows) owners (sets_of new_rows) (owners ++ group ∷ []) (row ∷ []) (set_of own ∷ [])
    by_answer true out more =
        let longer : length (sets_of new_rows) ≡ length (sets_of rows) + 1 = omega (arith, length-map new_rows set_of, length-map rows set_of, more) in
        let P : Columns ℕ → Type 0 = λ (x : Columns ℕ). TakesIn columns group (sets_of rows) owners (sets_of new_rows) (owners ++ group ∷ []) (row ∷ []) (x ∷ []) in (
          fresh_frame columns (sets_of rows) owners group frame last_group (set_of word) row stands reduced bounded c last high place (sets_of new_rows) spanned_as longer,
          subst P (sym unit_is_own) (fresh_taken columns (sets_of rows) owners group frame last_group (set_of word) row stands reduced bounded c last high place (sets_of new_rows) spanned_as longer),
        )
    by_answer false within more =
        let Q : Columns ℕ → Type 0 = λ (x : Columns ℕ). InSpan (sets_of rows) x in
        absurd (fresh_outside columns (sets_of rows) owners group frame last_group (set_of word) row stands reduced bounded c last high place (subst Q fresh_is within))

-- what is kept once a group was taken in
pub kept_push : (columns basis_columns new_basis_columns : ℕ) (groups words : List (List (List Bool))) (basis : List (Columns ℕ)) (owners : List ℕ) (whole : Bool) (new_basis : List (Columns ℕ)) (new_owners : List ℕ) (rows row_words : List (List Bool)) (group : ℕ)
    → IsKept columns basis_columns groups words basis owners whole → whole ≡ true → new_basis_columns ≡ basis_columns → group ≡ length groups → IsFrame columns new_basis new_owners
    → TakesIn columns group basis owners new_basis new_owners (sets_of rows) (sets_of row_words) → All (λ word. length word ≡ 2 * columns) row_words
    → IsKept columns new_basis_columns (groups ++ rows ∷ []) (words ++ row_words ∷ []) new_basis new_owners true
kept_push columns basis_columns new_basis_columns groups words basis owners whole new_basis new_owners rows row_words group kept is_whole same at frame taken wide =
    let number : group ≡ length (map sets_of groups) = omega (arith, length-map groups sets_of) in
    let P : ℕ → Type 0 = λ (n : ℕ). TakesIn columns n basis owners new_basis new_owners (sets_of rows) (sets_of row_words) in
    let more : AreKept columns (map sets_of groups ++ sets_of rows ∷ []) (map sets_of words ++ sets_of row_words ∷ []) new_basis new_owners =
    kept_more columns (map sets_of groups) (map sets_of words) basis owners new_basis new_owners (sets_of rows) (sets_of row_words) (kept.kept is_whole) frame (subst P number taken) in
    record {
      small = kept.small;
      basis_wide = same ∙ kept.basis_wide;
      words_wide = wide_more (2 * columns) words row_words kept.words_wide wide;
      kept = λ e. rw (map_push sets_of groups rows, map_push sets_of words row_words) more;
    }
