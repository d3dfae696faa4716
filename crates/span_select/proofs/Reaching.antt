-- The last group that is needed is that of the last column of what is left of the leak.
use Rattle.std.proofs.Common.{◌≡◌, ℕ, ◌+◌, ◌-◌, ◌<◌, ◌≤◌, suc, Bool, true, false, List, [], ◌∷◌, ◌++◌, length, get_or, take, drop, reverse, refl, sym, ap, ◌∙◌, subst, inl, inr, arith, true≢false}
use Rattle.std.proofs.lemmas.Bool.{cases_lt}
use Rattle.std.proofs.lemmas.List.{append-nil, reverse-append, take-take, get_or-take, length-take-le}
use Rattle.span_model.specs.Columns.{Columns, empty, ◌△◌}
use Rattle.span_model.specs.Span.{InSpan, Spans, SameSpan}
use Rattle.span_model.proofs.Sets.{△_comm, △_assoc, △-empty, △_cancel, △_cancel_right}
use Rattle.span_model.proofs.Members.{empty_in, in_as, in_none, in_cases, in_sum, in_with, in_behind, in_front, in_parts, spans_both}
use Rattle.gf2_span.specs.Rows.{IsLast, LeadsNoMember}
use Rattle.span_select.specs.Selection.{rows_of, chosen_rows, numbers_from, AreLeastNumbers}
use Rattle.span_select.specs.Words.{IsReduced, StandsFor, IsUpTo, IsFrame, AreWords, AreKept, IsLifted}
use Rattle.span_select.proofs.Choosing.{spans_beside, spans_swap, selection_within, LeastFrom, Reaches, chosen_first, left_before, numbers-left, chosen-left, take_down, leave_all, none_settled}
use Rattle.span_select.proofs.Lasts.{not_true, first_only, both_false, reduced_sum, reduced_as}
use Rattle.span_select.proofs.Standing.{stands_empty, stands_sum, stands_row, stands_word, up_to_reduced, one_row, one_word, words_up, words_down, first_groups_word, first_groups_row}

-- ---- spans whose members are words of a span

module _ (columns : ℕ) (basis : List (Columns ℕ)) where
  empty_reduced : (w : Columns ℕ) → w ≡ empty → IsReduced basis w
  empty_reduced w e = reduced_as basis empty w (sym e) (λ u c member last. refl)

  pub lifted_none : IsLifted columns basis [] []
  lifted_none = record {
    up = λ row h. (empty, empty_in [], stands_row columns basis empty empty row (sym (in_none row h)) (stands_empty columns basis));
    down = λ word h. (empty, empty_in [], stands_word columns basis empty word empty (sym (in_none word h)) (stands_empty columns basis));
    reduced = λ word h. empty_reduced word (in_none word h);
  }

  pub lifted_one : (row word : Columns ℕ) → StandsFor columns basis word row → IsReduced basis word → IsLifted columns basis (row ∷ []) (word ∷ [])
  lifted_one row word stands reduced = record {
    up = λ r h. elim (in_cases row [] r h) [
      | inl m ↦ (empty, empty_in (word ∷ []), stands_row columns basis empty empty r (sym (in_none r m)) (stands_empty columns basis))
      | inr m ↦ (
        word △ empty,
        in_with word [] empty (empty_in []),
        stands_row columns basis (word △ empty) (row △ m.0) r m.2 (stands_sum columns basis word empty row m.0 stands (stands_row columns basis empty empty m.0 (sym (in_none m.0 m.1)) (stands_empty columns basis))),
      )
    ];
    down = λ w h. elim (in_cases word [] w h) [
      | inl m ↦ (empty, empty_in (row ∷ []), stands_word columns basis empty w empty (sym (in_none w m)) (stands_empty columns basis))
      | inr m ↦ (
        row △ empty,
        in_with row [] empty (empty_in []),
        stands_word columns basis (word △ m.0) w (row △ empty) m.2 (stands_sum columns basis word m.0 row empty stands (stands_word columns basis empty m.0 empty (sym (in_none m.0 m.1)) (stands_empty columns basis))),
      )
    ];
    reduced = λ w h. elim (in_cases word [] w h) [
      | inl m ↦ empty_reduced w (in_none w m)
      | inr m ↦ reduced_as basis (word △ m.0) w m.2 (reduced_sum basis word m.0 reduced (empty_reduced m.0 (in_none m.0 m.1)))
    ];
  }

  pub lifted_words : (owners : List ℕ) → IsFrame columns basis owners → (j : ℕ) (rows words : List (Columns ℕ)) → AreWords columns basis owners j rows words → IsLifted columns basis rows words
  lifted_words owners frame j rows words are = record {
    up = λ row h. (let m = words_up columns basis owners j rows words are row h in (m.0, m.1, m.2));
    down = λ word h. (let m = words_down columns basis owners j rows words are word h in (m.0, m.1, m.2));
    reduced = λ word h. up_to_reduced columns basis owners frame j word (words_down columns basis owners j rows words are word h).3;
  }

  pub lifted_both : (a b u w rows words : List (Columns ℕ)) → IsLifted columns basis a u → IsLifted columns basis b w → Spans rows (a ++ b) → Spans (a ++ b) rows → SameSpan words (u ++ w)
      → IsLifted columns basis rows words
  lifted_both a b u w rows words x y more less same = record {
    up = λ row h.
        let parts = in_parts a b row (less row h) in
        let first = x.up parts.0 parts.2 in
        let second = y.up parts.1 parts.3 in (
          first.0 △ second.0,
          (same (first.0 △ second.0)).1 (in_sum (u ++ w) first.0 second.0 (in_behind u w first.0 first.1) (in_front u w second.0 second.1)),
          stands_row columns basis (first.0 △ second.0) (parts.0 △ parts.1) row parts.4 (stands_sum columns basis first.0 second.0 parts.0 parts.1 first.2 second.2),
        );
    down = λ word h.
        let parts = in_parts u w word ((same word).0 h) in
        let first = x.down parts.0 parts.2 in
        let second = y.down parts.1 parts.3 in (
          first.0 △ second.0,
          more (first.0 △ second.0) (in_sum (a ++ b) first.0 second.0 (in_behind a b first.0 first.1) (in_front a b second.0 second.1)),
          stands_word columns basis (parts.0 △ parts.1) word (first.0 △ second.0) parts.4 (stands_sum columns basis parts.0 parts.1 first.0 second.0 first.2 second.2),
        );
    reduced = λ word h.
        let parts = in_parts u w word ((same word).0 h) in
        reduced_as basis (parts.0 △ parts.1) word parts.4 (reduced_sum basis parts.0 parts.1 (x.reduced parts.0 parts.2) (y.reduced parts.1 parts.3));
  }

  pub spans_turned : (a b : List (Columns ℕ)) → Spans (a ++ b) (b ++ a)
  spans_turned a b = spans_both (a ++ b) b a (in_front a b) (in_behind a b)

  -- one row more
  pub lifted_more : (rows words new_words : List (Columns ℕ)) (row word : Columns ℕ) → IsLifted columns basis rows words → StandsFor columns basis word row → IsReduced basis word
      → SameSpan new_words (word ∷ words) → IsLifted columns basis (rows ++ row ∷ []) new_words
  lifted_more rows words new_words row word lifted stands reduced same =
      lifted_both (row ∷ []) rows (word ∷ []) words (rows ++ row ∷ []) new_words (lifted_one row word stands reduced) lifted
      (spans_turned rows (row ∷ [])) (spans_turned (row ∷ []) rows) same

  -- ---- what is left of the leak

  -- a reduced word of the leak, after a member of the span of the rows was taken from it
  pub record IsRest (rows : List (Columns ℕ)) (leak rest : Columns ℕ) : Type 0 where
    pub taken : Columns ℕ
    pub taken_in : InSpan rows taken
    pub stands : StandsFor columns basis rest (leak △ taken)
    pub reduced : IsReduced basis rest

  -- a member of the span of the words was taken too
  pub rest_less : (rows words : List (Columns ℕ)) (leak rest new_rest : Columns ℕ) → IsLifted columns basis rows words → IsRest rows leak rest → InSpan words (rest △ new_rest) → IsRest rows leak new_rest
  rest_less rows words leak rest new_rest lifted left member =
      let m = lifted.down (rest △ new_rest) member in
      record {
        taken = left.taken △ m.0;
        taken_in = in_sum rows left.taken m.0 left.taken_in m.1;
        stands = stands_row columns basis new_rest ((leak △ left.taken) △ m.0) (leak △ (left.taken △ m.0)) (△_assoc leak left.taken m.0)
            (stands_word columns basis (rest △ (rest △ new_rest)) new_rest ((leak △ left.taken) △ m.0) (△_cancel rest new_rest) (stands_sum columns basis rest (rest △ new_rest) (leak △ left.taken) m.0 left.stands m.2));
        reduced = reduced_as basis (rest △ (rest △ new_rest)) new_rest (△_cancel rest new_rest) (reduced_sum basis rest (rest △ new_rest) left.reduced (lifted.reduced (rest △ new_rest) member));
      }

-- ---- the selection so far

-- the groups from number k on are settled: these of them are picked, and the span and what is left of the leak tell of their rows
pub record IsStage (columns : ℕ) (all : List (List (Columns ℕ))) (basis own : List (Columns ℕ)) (count : ℕ) (leak : Columns ℕ) (k : ℕ) (numbers : List ℕ) (span : List (Columns ℕ)) (rest : Columns ℕ) : Type 0 where
  pub picks : List Bool
  pub fits : k ≤ count
  pub numbers_are : reverse numbers ≡ numbers_from k picks
  pub settled : InSpan (own ++ rows_of (take count all)) leak → LeastFrom own (take count all) leak k picks
  pub lifted : IsLifted columns basis (own ++ chosen_rows picks (drop k (take count all))) span
  pub left : IsRest columns basis (own ++ chosen_rows picks (drop k (take count all))) leak rest

module _ (columns : ℕ) (all words : List (List (Columns ℕ))) (basis : List (Columns ℕ)) (owners : List ℕ) (kept : AreKept columns all words basis owners) where
  -- what is left is of the first groups, so these are enough
  pub enough : (rows : List (Columns ℕ)) (leak rest : Columns ℕ) (j : ℕ) → IsRest columns basis rows leak rest → IsUpTo owners j rest → InSpan (rows ++ rows_of (take j all)) leak
  enough rows leak rest j left up_to =
      let m = first_groups_row columns all words basis owners kept j rest up_to in
      let same : leak △ left.taken ≡ m.0 = one_row columns basis owners kept.frame rest (leak △ left.taken) m.0 left.stands m.2 in
      in_as (rows ++ rows_of (take j all)) (ap (λ (x : Columns ℕ). x △ left.taken) (sym same) ∙ △_cancel_right leak left.taken)
      (in_sum (rows ++ rows_of (take j all)) m.0 left.taken (in_front rows (rows_of (take j all)) m.0 m.1) (in_behind rows (rows_of (take j all)) left.taken left.taken_in))

  -- where the first groups are enough, the last column that is left is of one of them
  pub last_is_enough : (rows span : List (Columns ℕ)) (leak rest : Columns ℕ) (j c : ℕ) → IsLifted columns basis rows span → IsRest columns basis rows leak rest
      → InSpan (rows ++ rows_of (take j all)) leak → IsLast rest c → LeadsNoMember span c → (c < length owners) × (get_or owners c 0 < j)
  last_is_enough rows span leak rest j c lifted left member last free =
      let parts = in_parts rows (rows_of (take j all)) leak member in
      let mine = lifted.up parts.0 parts.2 in
      let taken = lifted.up left.taken left.taken_in in
      let theirs = first_groups_word columns all words basis owners kept j parts.1 parts.3 in
      let u : Columns ℕ = mine.0 △ taken.0 in
      let u_in : InSpan span (mine.0 △ taken.0) = in_sum span mine.0 taken.0 mine.1 taken.1 in
      let row : (parts.0 △ left.taken) △ parts.1 ≡ leak △ left.taken =
      △_assoc parts.0 left.taken parts.1 ∙ ap (λ (x : Columns ℕ). parts.0 △ x) (△_comm left.taken parts.1) ∙ sym (△_assoc parts.0 parts.1 left.taken) ∙ ap (λ (x : Columns ℕ). x △ left.taken) parts.4 in
      let stands : StandsFor columns basis ((mine.0 △ taken.0) △ theirs.0) (leak △ left.taken) =
      stands_row columns basis ((mine.0 △ taken.0) △ theirs.0) ((parts.0 △ left.taken) △ parts.1) (leak △ left.taken) row
      (stands_sum columns basis (mine.0 △ taken.0) theirs.0 (parts.0 △ left.taken) parts.1 (stands_sum columns basis mine.0 taken.0 parts.0 left.taken mine.2 taken.2) theirs.1) in
      let reduced : IsReduced basis ((mine.0 △ taken.0) △ theirs.0) =
      reduced_sum basis (mine.0 △ taken.0) theirs.0 (lifted.reduced (mine.0 △ taken.0) u_in) (up_to_reduced columns basis owners kept.frame j theirs.0 theirs.2) in
      let same : rest ≡ (mine.0 △ taken.0) △ theirs.0 = one_word columns basis owners kept.frame rest ((mine.0 △ taken.0) △ theirs.0) (leak △ left.taken) left.stands stands left.reduced reduced in
      settle (mine.0 △ taken.0) theirs.0 u_in theirs.2 same
    where
      -- a last column past the groups would be the last one of a member
      no_other : (u t : Columns ℕ) → InSpan span u → rest ≡ u △ t → ((d : ℕ) → c ≤ d → t d ≡ false) → ⊥
      no_other u t u_in same none =
          let u_is : rest △ t ≡ u = ap (λ (x : Columns ℕ). x △ t) same ∙ △_cancel_right u t in
          let P : Columns ℕ → Type 0 = λ (x : Columns ℕ). IsLast x c in
          let u_last : IsLast u c = subst P u_is (record {
            there = first_only (rest c) (t c) last.there (none c (omega arith));
            none_after = λ d h. both_false (rest d) (t d) (last.none_after d h) (none d (omega arith));
          }) in
          free u u_in u_last

      settle : (u t : Columns ℕ) → InSpan span u → IsUpTo owners j t → rest ≡ u △ t → (c < length owners) × (get_or owners c 0 < j)
      settle u t u_in up_to same = elim (cases_lt c (length owners)) [
        | inl inside ↦ elim (cases_lt (get_or owners c 0) j) [
          | inl less ↦ (inside, less)
          | inr past ↦ absurd (no_other u t u_in same (λ d le. not_true (t d) (λ there.
              let m = up_to d there in absurd (omega (arith, m.0, m.1, kept.frame.rising c d le m.0, past)))))
        ]
        | inr past ↦ absurd (no_other u t u_in same (λ d le. not_true (t d) (λ there. let m = up_to d there in absurd (omega (arith, m.0)))))
      ]

  module _ (own : List (Columns ℕ)) (count : ℕ) (leak : Columns ℕ) (within : count ≤ length all) where
    abbrev groups : List (List (Columns ℕ))
    groups = take count all

    many : length groups ≡ count
    many = length-take-le count all within

    first_groups : (j : ℕ) → j ≤ count → take j groups ≡ take j all
    first_groups j le = take-take j count all le

    pub stage_begins : (word : Columns ℕ) (span : List (Columns ℕ)) → IsLifted columns basis own span → StandsFor columns basis word leak → IsReduced basis word → IsStage columns all basis own count leak count [] span word
    stage_begins word span lifted stands reduced =
        let P : List (Columns ℕ) → Type 0 = λ (x : List (Columns ℕ)). IsLifted columns basis x span in
        let Q : List (Columns ℕ) → Type 0 = λ (x : List (Columns ℕ)). IsRest columns basis x leak word in
        let R : ℕ → Type 0 = λ (i : ℕ). LeastFrom own groups leak i [] in
        record {
          picks = [];
          fits = omega arith;
          numbers_are = refl;
          settled = λ h. subst R many (none_settled own groups leak h);
          lifted = subst P (sym (append-nil own)) lifted;
          left = subst Q (sym (append-nil own)) (record {
            taken = empty;
            taken_in = empty_in own;
            stands = stands_row columns basis word leak (leak △ empty) (sym (△-empty leak)) stands;
            reduced = reduced;
          });
        }

    -- the two ways to say that the first j groups are enough
    reaches_from : (j : ℕ) (chosen : List (Columns ℕ)) → j ≤ count → InSpan ((own ++ chosen) ++ rows_of (take j all)) leak → Reaches own groups leak j chosen
    reaches_from j chosen le h =
        let P : List (List (Columns ℕ)) → Type 0 = λ (x : List (List (Columns ℕ))). InSpan ((own ++ rows_of x) ++ chosen) leak in
        subst P (sym (first_groups j le)) (spans_swap own chosen (rows_of (take j all)) leak h)

    from_reaches : (j : ℕ) (chosen : List (Columns ℕ)) → j ≤ count → Reaches own groups leak j chosen → InSpan ((own ++ chosen) ++ rows_of (take j all)) leak
    from_reaches j chosen le h =
        let P : List (List (Columns ℕ)) → Type 0 = λ (x : List (List (Columns ℕ))). InSpan ((own ++ rows_of x) ++ chosen) leak in
        spans_swap own (rows_of (take j all)) chosen leak (subst P (first_groups j le) h)

    module _ (k : ℕ) (numbers : List ℕ) (span : List (Columns ℕ)) (rest : Columns ℕ) (stage : IsStage columns all basis own count leak k numbers span rest) where
      abbrev chosen : List (Columns ℕ)
      chosen = chosen_rows stage.picks (drop k groups)

      -- a member of the span was taken from what is left
      pub stage_less : (new_rest : Columns ℕ) → InSpan span (rest △ new_rest) → IsStage columns all basis own count leak k numbers span new_rest
      stage_less new_rest member = record {
        picks = stage.picks;
        fits = stage.fits;
        numbers_are = stage.numbers_are;
        settled = stage.settled;
        lifted = stage.lifted;
        left = rest_less columns basis (own ++ chosen) span leak rest new_rest stage.lifted stage.left member;
      }

      -- a last column that is not of the groups before number k: no selection spans the leak
      pub stage_none : (c : ℕ) → IsLast rest c → LeadsNoMember span c → ¬ ((c < length owners) × (get_or owners c 0 < k)) → ¬ InSpan (own ++ rows_of (take count all)) leak
      stage_none c last free other h =
          other (last_is_enough (own ++ chosen) span leak rest k c stage.lifted stage.left (from_reaches k chosen stage.fits (stage.settled h).spans) last free)

      -- nothing is left
      pub stage_ends : rest ≡ empty → AreLeastNumbers own (take count all) leak (reverse numbers)
      stage_ends none =
          let up_to : IsUpTo owners 0 rest = λ c there. absurd (true≢false (sym there ∙ ap (λ (x : Columns ℕ). x c) none)) in
          let reached : Reaches own groups leak 0 chosen = reaches_from 0 chosen (omega arith) (enough (own ++ chosen) leak rest 0 stage.left up_to) in
          let P : List (Columns ℕ) → Type 0 = λ (x : List (Columns ℕ)). InSpan (own ++ x) leak in
          let Q : List (Columns ℕ) → Type 0 = λ (x : List (Columns ℕ)). InSpan (x ++ chosen_rows stage.picks (drop k groups)) leak in
          let le : k ≤ length groups = omega (arith, many, stage.fits) in
          let picked : InSpan (own ++ chosen_rows (left_before k stage.picks) groups) leak =
          subst P (sym (chosen-left own groups leak k 0 k stage.picks (omega arith) le)) (subst Q (append-nil own) reached) in
          let h : InSpan (own ++ rows_of groups) leak = selection_within own groups leak (left_before k stage.picks) picked in (
            left_before k stage.picks,
            leave_all own groups leak k stage.picks le (stage.settled h) reached,
            stage.numbers_are ∙ sym (numbers-left k 0 stage.picks ∙ ap (λ i. numbers_from i stage.picks) (let e : 0 + k ≡ k = omega arith in e)),
          )

      module _ (c : ℕ) (last : IsLast rest c) (free : LeadsNoMember span c) (inside : c < length owners) (less : get_or owners c 0 < k) where
        abbrev group : ℕ
        group = get_or owners c 0

        abbrev skipped : ℕ
        skipped = k - (get_or owners c 0 + 1)

        next_enough : Reaches own groups leak (group + 1) chosen
        next_enough =
            let up_to : IsUpTo owners (group + 1) rest = λ d there. elim (cases_lt c d) [
              | inl after ↦ absurd (true≢false (sym there ∙ last.none_after d after))
              | inr le ↦ (omega arith, omega (arith, kept.frame.rising d c le inside))
            ] in
            reaches_from (group + 1) chosen (omega (arith, stage.fits)) (enough (own ++ chosen) leak rest (group + 1) stage.left up_to)

        next_needed : ¬ Reaches own groups leak group chosen
        next_needed h =
            let m = last_is_enough (own ++ chosen) span leak rest group c stage.lifted stage.left (from_reaches group chosen (omega (arith, stage.fits)) h) last free in
            absurd (omega (arith, m.1))

        next_chosen : chosen_rows (true ∷ left_before skipped stage.picks) (drop group groups) ≡ get_or all group [] ++ chosen
        next_chosen =
            chosen_first groups group (left_before skipped stage.picks) (omega (arith, many, stage.fits))
            ∙ ap (λ (x : List (Columns ℕ)). x ++ chosen_rows (left_before skipped stage.picks) (drop (group + 1) groups)) (get_or-take count all group [] (omega (arith, stage.fits)))
            ∙ ap (λ (x : List (Columns ℕ)). get_or all group [] ++ x) (chosen-left own groups leak skipped (group + 1) k stage.picks (omega arith) (omega (arith, many, stage.fits)))

        next_numbers : reverse (numbers ++ group ∷ []) ≡ numbers_from group (true ∷ left_before skipped stage.picks)
        next_numbers =
            reverse-append numbers (group ∷ [])
            ∙ ap (λ (x : List ℕ). group ∷ x) (stage.numbers_are ∙ sym (numbers-left skipped (suc group) stage.picks ∙ ap (λ i. numbers_from i stage.picks) (let e : suc group + skipped ≡ k = omega arith in e)))

        -- the group of the last column is the last one that is needed
        pub stage_next : (new_span : List (Columns ℕ)) → SameSpan new_span (get_or words (get_or owners c 0) [] ++ span) → IsStage columns all basis own count leak (get_or owners c 0) (numbers ++ get_or owners c 0 ∷ []) new_span rest
        stage_next new_span grown =
            let in_all : group < length all = omega (arith, stage.fits) in
            let here : IsLifted columns basis (get_or all group []) (get_or words group []) =
            lifted_words columns basis owners kept.frame (group + 1) (get_or all group []) (get_or words group []) (kept.worded group in_all) in
            let more : Spans (own ++ (get_or all group [] ++ chosen)) (get_or all group [] ++ (own ++ chosen)) =
            spans_both (own ++ (get_or all group [] ++ chosen)) (get_or all group []) (own ++ chosen)
            (λ w h. in_front own (get_or all group [] ++ chosen) w (in_behind (get_or all group []) chosen w h))
            (spans_beside own (get_or all group [] ++ chosen) chosen (in_front (get_or all group []) chosen)) in
            let fewer : Spans (get_or all group [] ++ (own ++ chosen)) (own ++ (get_or all group [] ++ chosen)) =
            spans_both (get_or all group [] ++ (own ++ chosen)) own (get_or all group [] ++ chosen)
            (λ w h. in_front (get_or all group []) (own ++ chosen) w (in_behind own chosen w h))
            (spans_beside (get_or all group []) (own ++ chosen) chosen (in_front own chosen)) in
            let lifted : IsLifted columns basis (own ++ (get_or all group [] ++ chosen)) new_span =
            lifted_both columns basis (get_or all group []) (own ++ chosen) (get_or words group []) span (own ++ (get_or all group [] ++ chosen)) new_span here stage.lifted more fewer grown in
            let left : IsRest columns basis (own ++ (get_or all group [] ++ chosen)) leak rest = record {
              taken = stage.left.taken;
              taken_in = more stage.left.taken (in_front (get_or all group []) (own ++ chosen) stage.left.taken stage.left.taken_in);
              stands = stage.left.stands;
              reduced = stage.left.reduced;
            } in
            let P : List (Columns ℕ) → Type 0 = λ (x : List (Columns ℕ)). IsLifted columns basis (own ++ x) new_span in
            let Q : List (Columns ℕ) → Type 0 = λ (x : List (Columns ℕ)). IsRest columns basis (own ++ x) leak rest in
            record {
              picks = true ∷ left_before skipped stage.picks;
              fits = omega (arith, stage.fits);
              numbers_are = next_numbers;
              settled = λ h. take_down own groups leak group k stage.picks less (omega (arith, many, stage.fits)) (stage.settled h) next_enough next_needed;
              lifted = subst P (sym next_chosen) lifted;
              left = subst Q (sym next_chosen) left;
            }

        -- the same, for the number and the words as they are read
        pub stage_next_at : (number : ℕ) (number_words : List (Columns ℕ)) (new_span : List (Columns ℕ)) → number ≡ get_or owners c 0 → get_or words number [] ≡ number_words
            → SameSpan new_span (number_words ++ span) → IsStage columns all basis own count leak number (numbers ++ number ∷ []) new_span rest
        stage_next_at number number_words new_span e f grown =
            let P : ℕ → Type 0 = λ (n : ℕ). IsStage columns all basis own count leak n (numbers ++ n ∷ []) new_span rest in
            let Q : List (Columns ℕ) → Type 0 = λ (x : List (Columns ℕ)). SameSpan new_span (x ++ span) in
            subst P (sym e) (stage_next new_span (subst Q (sym f ∙ ap (λ i. get_or words i []) e) grown))
