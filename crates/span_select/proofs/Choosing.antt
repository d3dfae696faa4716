-- The least selection is found from the last group to the first: a group is left out where the rest does without it.
use Rattle.std.proofs.Common.{◌≡◌, ◌⊎◌, ℕ, ◌+◌, ◌-◌, ◌<◌, ◌≤◌, zero, suc, Bool, true, false, List, [], ◌∷◌, ◌++◌, length, get_or, take, drop, refl, sym, ap, ◌∙◌, subst, inl, inr, arith, true≢false}
use native.Mathlib.Nat.{le_of_suc-le-suc}
use Rattle.std.proofs.lemmas.Bool.{cases_order}
use Rattle.std.proofs.lemmas.List.{append-nil, append_assoc, take_more, drop_more, drop_all, take_all}
use Rattle.span_model.specs.Columns.{Columns}
use Rattle.span_model.specs.Span.{InSpan, Spans}
use Rattle.span_model.proofs.Members.{in_behind, in_front, spans_both, spans_none}
use Rattle.span_select.specs.Selection.{rows_of, chosen_rows, IsLesser, IsLeastSelection, numbers_from}

-- ---- two selections

lesser_later : (p : Bool) (less more : List Bool) → IsLesser less more → (q : Bool) → IsLesser (p ∷ less) (q ∷ more)
lesser_later p less more lesser q = record {
  last = suc lesser.last;
  left_out = lesser.left_out;
  picked = lesser.picked;
  same_after = after;
}
  where
    after : (k : ℕ) → suc lesser.last < k → get_or (p ∷ less) k false ≡ get_or (q ∷ more) k false
    after zero h = absurd (omega arith)
    after (suc k) h = lesser.same_after k (le_of_suc-le-suc h)

lesser_first : (less more : List Bool) → more ≡ less → IsLesser (false ∷ less) (true ∷ more)
lesser_first less more e = record {
  last = 0;
  left_out = refl;
  picked = refl;
  same_after = after;
}
  where
    after : (k : ℕ) → 0 < k → get_or (false ∷ less) k false ≡ get_or (true ∷ more) k false
    after zero h = absurd (omega arith)
    after (suc k) h = ap (λ (x : List Bool). get_or x k false) (sym e)

lesser_not_both : (a b : List Bool) → IsLesser a b → IsLesser b a → ⊥
lesser_not_both a b x y = elim (cases_order x.last y.last) [
  | inl same ↦
      let P : ℕ → Type 0 = λ k. get_or a k false ≡ true in
      true≢false (sym (subst P (sym same) y.picked) ∙ x.left_out)
  | inr other ↦ elim other [
    | inl less ↦ true≢false (sym y.picked ∙ x.same_after y.last less ∙ y.left_out)
    | inr more ↦ true≢false (sym x.picked ∙ y.same_after x.last more ∙ x.left_out)
  ]
]

module _ {C : Type 0} where
  pub one_least : (own : List (Columns C)) (groups : List (List (Columns C))) (v : Columns C) (a b : List Bool)
      → IsLeastSelection own groups v a → IsLeastSelection own groups v b → a ≡ b
  one_least own groups v a b x y = elim (x.least b y.count y.spans) [
    | inl same ↦ sym same
    | inr less ↦ elim (y.least a x.count x.spans) [
      | inl same ↦ same
      | inr more ↦ absurd (lesser_not_both a b less more)
    ]
  ]

  -- ---- what groups span

  pub chosen_within : (picks : List Bool) (groups : List (List (Columns C))) → Spans (rows_of groups) (chosen_rows picks groups)
  chosen_within [] groups = spans_none (rows_of groups)
  chosen_within (pick ∷ picks) [] = spans_none []
  chosen_within (true ∷ picks) (group ∷ groups) =
      spans_both (group ++ rows_of groups) group (chosen_rows picks groups) (in_behind group (rows_of groups))
      (λ w h. in_front group (rows_of groups) w (chosen_within picks groups w h))
  chosen_within (false ∷ picks) (group ∷ groups) = λ w h. in_front group (rows_of groups) w (chosen_within picks groups w h)

  -- both lists in one and the same place
  pub spans_beside : (own a b : List (Columns C)) → Spans a b → Spans (own ++ a) (own ++ b)
  spans_beside own a b h = spans_both (own ++ a) own b (in_behind own a) (λ w k. in_front own a w (h w k))

  pub selection_within : (own : List (Columns C)) (groups : List (List (Columns C))) (v : Columns C) (picks : List Bool)
      → InSpan (own ++ chosen_rows picks groups) v → InSpan (own ++ rows_of groups) v
  selection_within own groups v picks = spans_beside own (rows_of groups) (chosen_rows picks groups) (chosen_within picks groups) v

  -- the order of lists says nothing
  pub spans_swap : (own a b : List (Columns C)) → Spans ((own ++ b) ++ a) ((own ++ a) ++ b)
  spans_swap own a b =
      spans_both ((own ++ b) ++ a) (own ++ a) b
      (spans_both ((own ++ b) ++ a) own a (λ w h. in_behind (own ++ b) a w (in_behind own b w h)) (in_front (own ++ b) a))
      (λ w h. in_behind (own ++ b) a w (in_front own b w h))

  pub rows_of-append : (a b : List (List (Columns C))) → rows_of (a ++ b) ≡ rows_of a ++ rows_of b
  rows_of-append [] b = refl
  rows_of-append (group ∷ a) b = ap (λ (x : List (Columns C)). group ++ x) (rows_of-append a b) ∙ sym (append_assoc group (rows_of a) (rows_of b))

  -- more groups span more
  pub rows_of_first : (groups : List (List (Columns C))) (i j : ℕ) → i ≤ j → Spans (rows_of (take j groups)) (rows_of (take i groups))
  rows_of_first groups zero j le = spans_none (rows_of (take j groups))
  rows_of_first [] (suc i) zero le = absurd (omega arith)
  rows_of_first [] (suc i) (suc j) le = spans_none []
  rows_of_first (group ∷ groups) (suc i) zero le = absurd (omega arith)
  rows_of_first (group ∷ groups) (suc i) (suc j) le =
      spans_beside group (rows_of (take j groups)) (rows_of (take i groups)) (rows_of_first groups i j (le_of_suc-le-suc le))

  pub rows_of_one_more : (groups : List (List (Columns C))) (k : ℕ) → k < length groups → rows_of (take (k + 1) groups) ≡ rows_of (take k groups) ++ get_or groups k []
  rows_of_one_more groups k h =
      ap (λ (x : List (List (Columns C))). rows_of x) (take_more groups k [] h)
      ∙ rows_of-append (take k groups) (get_or groups k [] ∷ [])
      ∙ ap (λ (x : List (Columns C)). rows_of (take k groups) ++ x) (append-nil (get_or groups k []))

  -- ---- one group before the others

  more_own : (own group : List (Columns C)) (groups : List (List (Columns C))) (v : Columns C) (pick : Bool) (picks : List Bool)
      → InSpan (own ++ chosen_rows (pick ∷ picks) (group ∷ groups)) v → InSpan ((own ++ group) ++ chosen_rows picks groups) v
  more_own own group groups v true picks h =
      let P : List (Columns C) → Type 0 = λ (x : List (Columns C)). InSpan x v in
      subst P (sym (append_assoc own group (chosen_rows picks groups))) h
  more_own own group groups v false picks h =
      spans_both ((own ++ group) ++ chosen_rows picks groups) own (chosen_rows picks groups)
      (λ w k. in_behind (own ++ group) (chosen_rows picks groups) w (in_behind own group w k))
      (in_front (own ++ group) (chosen_rows picks groups)) v h

  -- the group is left out, since the others do without it
  leave_first : (own group : List (Columns C)) (groups : List (List (Columns C))) (v : Columns C) (picks : List Bool)
      → IsLeastSelection (own ++ group) groups v picks → InSpan (own ++ chosen_rows picks groups) v → IsLeastSelection own (group ∷ groups) v (false ∷ picks)
  leave_first own group groups v picks least without = record {
    count = ap suc least.count;
    spans = without;
    least = compare;
  }
    where
      compare : (others : List Bool) → length others ≡ suc (length groups) → InSpan (own ++ chosen_rows others (group ∷ groups)) v
          → (others ≡ false ∷ picks) ⊎ IsLesser (false ∷ picks) others
      compare [] count h = absurd (omega arith)
      compare (true ∷ others) count h = elim (least.least others (omega arith) (more_own own group groups v true others h)) [
        | inl same ↦ inr (lesser_first picks others same)
        | inr lesser ↦ inr (lesser_later false picks others lesser true)
      ]
      compare (false ∷ others) count h = elim (least.least others (omega arith) (more_own own group groups v false others h)) [
        | inl same ↦ inl (ap (λ (x : List Bool). false ∷ x) same)
        | inr lesser ↦ inr (lesser_later false picks others lesser false)
      ]

  -- the group is taken, since the others do not without it
  take_first : (own group : List (Columns C)) (groups : List (List (Columns C))) (v : Columns C) (picks : List Bool)
      → IsLeastSelection (own ++ group) groups v picks → ¬ InSpan (own ++ chosen_rows picks groups) v → IsLeastSelection own (group ∷ groups) v (true ∷ picks)
  take_first own group groups v picks least needed = record {
    count = ap suc least.count;
    spans = (let P : List (Columns C) → Type 0 = λ (x : List (Columns C)). InSpan x v in subst P (append_assoc own group (chosen_rows picks groups)) least.spans);
    least = compare;
  }
    where
      compare : (others : List Bool) → length others ≡ suc (length groups) → InSpan (own ++ chosen_rows others (group ∷ groups)) v
          → (others ≡ true ∷ picks) ⊎ IsLesser (true ∷ picks) others
      compare [] count h = absurd (omega arith)
      compare (true ∷ others) count h = elim (least.least others (omega arith) (more_own own group groups v true others h)) [
        | inl same ↦ inl (ap (λ (x : List Bool). true ∷ x) same)
        | inr lesser ↦ inr (lesser_later true picks others lesser true)
      ]
      compare (false ∷ others) count h = elim (least.least others (omega arith) (more_own own group groups v false others h)) [
        | inl same ↦ absurd (needed (let P : List Bool → Type 0 = λ (x : List Bool). InSpan (own ++ chosen_rows x groups) v in subst P same h))
        | inr lesser ↦ inr (lesser_later true picks others lesser false)
      ]

  -- ---- the groups from number k on are settled

  -- the least selection of the groups from number k on, where all those before it are one's own
  abbrev pub LeastFrom : List (Columns C) → List (List (Columns C)) → Columns C → ℕ → List Bool → Type 0
  LeastFrom own groups v k picks = IsLeastSelection (own ++ rows_of (take k groups)) (drop k groups) v picks

  -- the groups before number k, and those picked from there on, span the set
  abbrev pub Reaches : List (Columns C) → List (List (Columns C)) → Columns C → ℕ → List (Columns C) → Type 0
  Reaches own groups v k chosen = InSpan ((own ++ rows_of (take k groups)) ++ chosen) v

  -- the same with one group more before
  one_before : (own : List (Columns C)) (groups : List (List (Columns C))) (v : Columns C) (k : ℕ) (picks : List Bool) → k < length groups → LeastFrom own groups v (k + 1) picks
      → IsLeastSelection ((own ++ rows_of (take k groups)) ++ get_or groups k []) (drop (k + 1) groups) v picks
  one_before own groups v k picks h least =
      let P : List (Columns C) → Type 0 = λ (x : List (Columns C)). IsLeastSelection x (drop (k + 1) groups) v picks in
      subst P (ap (λ (x : List (Columns C)). own ++ x) (rows_of_one_more groups k h) ∙ sym (append_assoc own (rows_of (take k groups)) (get_or groups k []))) least

  pub chosen_first : (groups : List (List (Columns C))) (k : ℕ) (picks : List Bool) → k < length groups → chosen_rows (true ∷ picks) (drop k groups) ≡ get_or groups k [] ++ chosen_rows picks (drop (k + 1) groups)
  chosen_first groups k picks h = ap (λ (x : List (List (Columns C))). chosen_rows (true ∷ picks) x) (drop_more groups k [] h)

  left_first : (groups : List (List (Columns C))) (k : ℕ) (picks : List Bool) → k < length groups → chosen_rows (false ∷ picks) (drop k groups) ≡ chosen_rows picks (drop (k + 1) groups)
  left_first groups k picks h = ap (λ (x : List (List (Columns C))). chosen_rows (false ∷ picks) x) (drop_more groups k [] h)

  leave_at : (own : List (Columns C)) (groups : List (List (Columns C))) (v : Columns C) (k : ℕ) (picks : List Bool) → k < length groups → LeastFrom own groups v (k + 1) picks
      → Reaches own groups v k (chosen_rows picks (drop (k + 1) groups)) → LeastFrom own groups v k (false ∷ picks)
  leave_at own groups v k picks h least without =
      let P : List (List (Columns C)) → Type 0 = λ (x : List (List (Columns C))). IsLeastSelection (own ++ rows_of (take k groups)) x v (false ∷ picks) in
      subst P (sym (drop_more groups k [] h))
      (leave_first (own ++ rows_of (take k groups)) (get_or groups k []) (drop (k + 1) groups) v picks (one_before own groups v k picks h least) without)

  take_here : (own : List (Columns C)) (groups : List (List (Columns C))) (v : Columns C) (k : ℕ) (picks : List Bool) → k < length groups → LeastFrom own groups v (k + 1) picks
      → ¬ Reaches own groups v k (chosen_rows picks (drop (k + 1) groups)) → LeastFrom own groups v k (true ∷ picks)
  take_here own groups v k picks h least needed =
      let P : List (List (Columns C)) → Type 0 = λ (x : List (List (Columns C))). IsLeastSelection (own ++ rows_of (take k groups)) x v (true ∷ picks) in
      subst P (sym (drop_more groups k [] h))
      (take_first (own ++ rows_of (take k groups)) (get_or groups k []) (drop (k + 1) groups) v picks (one_before own groups v k picks h least) needed)

-- n groups that are left out, before the picks
abbrev pub left_before : ℕ → List Bool → List Bool
left_before zero picks = picks
left_before (suc n) picks = left_before n (false ∷ picks)

pub numbers-left : (n k : ℕ) (picks : List Bool) → numbers_from k (left_before n picks) ≡ numbers_from (k + n) picks
numbers-left zero k picks = ap (λ i. numbers_from i picks) (let e : k ≡ k + 0 = omega arith in e)
numbers-left (suc n) k picks = numbers-left n k (false ∷ picks) ∙ ap (λ i. numbers_from i picks) (let e : suc (k + n) ≡ k + suc n = omega arith in e)

module _ {C : Type 0} (own : List (Columns C)) (groups : List (List (Columns C))) (v : Columns C) where
  pub chosen-left : (n j k : ℕ) (picks : List Bool) → j + n ≡ k → k ≤ length groups → chosen_rows (left_before n picks) (drop j groups) ≡ chosen_rows picks (drop k groups)
  chosen-left zero j k picks e le = ap (λ i. chosen_rows picks (drop i groups)) (let f : j ≡ k = omega arith in f)
  chosen-left (suc n) j k picks e le =
      chosen-left n j (j + n) (false ∷ picks) refl (omega arith)
      ∙ left_first groups (j + n) picks (omega arith)
      ∙ ap (λ i. chosen_rows picks (drop i groups)) (let f : j + n + 1 ≡ k = omega arith in f)

  -- the groups from number j on up to k are left out, where those before j are enough
  pub leave_down : (n j k : ℕ) (picks : List Bool) → j + n ≡ k → k ≤ length groups → LeastFrom own groups v k picks
      → Reaches own groups v j (chosen_rows picks (drop k groups)) → LeastFrom own groups v j (left_before n picks)
  leave_down zero j k picks e le least enough =
      let P : ℕ → Type 0 = λ (i : ℕ). LeastFrom own groups v i picks in
      subst P (let f : k ≡ j = omega arith in f) least
  leave_down (suc n) j k picks e le least enough =
      let here : j + n < length groups = omega arith in
      let P : ℕ → Type 0 = λ (i : ℕ). LeastFrom own groups v i picks in
      let Q : ℕ → Type 0 = λ (i : ℕ). Reaches own groups v j (chosen_rows picks (drop i groups)) in
      let up : k ≡ j + n + 1 = omega arith in
      let at : Reaches own groups v j (chosen_rows picks (drop (j + n + 1) groups)) = subst Q up enough in
      let chosen : List (Columns C) = chosen_rows picks (drop (j + n + 1) groups) in
      let before : Spans ((own ++ rows_of (take (j + n) groups)) ++ chosen_rows picks (drop (j + n + 1) groups)) ((own ++ rows_of (take j groups)) ++ chosen_rows picks (drop (j + n + 1) groups)) =
      spans_both ((own ++ rows_of (take (j + n) groups)) ++ chosen_rows picks (drop (j + n + 1) groups)) (own ++ rows_of (take j groups)) (chosen_rows picks (drop (j + n + 1) groups))
      (λ w h. in_behind (own ++ rows_of (take (j + n) groups)) (chosen_rows picks (drop (j + n + 1) groups)) w (spans_beside own (rows_of (take (j + n) groups)) (rows_of (take j groups)) (rows_of_first groups j (j + n) (omega arith)) w h))
      (in_front (own ++ rows_of (take (j + n) groups)) (chosen_rows picks (drop (j + n + 1) groups))) in
      let left : LeastFrom own groups v (j + n) (false ∷ picks) = leave_at own groups v (j + n) picks here (subst P up least) (before v at) in
      let R : List (Columns C) → Type 0 = λ (x : List (Columns C)). Reaches own groups v j x in
      leave_down n j (j + n) (false ∷ picks) refl (omega arith) left (subst R (sym (left_first groups (j + n) picks here)) at)

  -- number j is the last group that is needed
  pub take_down : (j k : ℕ) (picks : List Bool) → j < k → k ≤ length groups → LeastFrom own groups v k picks
      → Reaches own groups v (j + 1) (chosen_rows picks (drop k groups)) → ¬ Reaches own groups v j (chosen_rows picks (drop k groups))
      → LeastFrom own groups v j (true ∷ left_before (k - (j + 1)) picks)
  take_down j k picks less le least enough needed =
      let e : j + 1 + (k - (j + 1)) ≡ k = omega arith in
      let R : List (Columns C) → Type 0 = λ (x : List (Columns C)). Reaches own groups v j x in
      take_here own groups v j (left_before (k - (j + 1)) picks) (omega arith)
      (leave_down (k - (j + 1)) (j + 1) k picks e le least enough)
      (λ h. needed (subst R (chosen-left (k - (j + 1)) (j + 1) k picks e le) h))

  -- no more groups are needed
  pub leave_all : (k : ℕ) (picks : List Bool) → k ≤ length groups → LeastFrom own groups v k picks
      → Reaches own groups v 0 (chosen_rows picks (drop k groups)) → IsLeastSelection own groups v (left_before k picks)
  leave_all k picks le least enough =
      let P : List (Columns C) → Type 0 = λ (x : List (Columns C)). IsLeastSelection x groups v (left_before k picks) in
      subst P (append-nil own) (leave_down k 0 k picks (omega arith) le least enough)

  -- before the last group all groups are one's own
  pub none_settled : InSpan (own ++ rows_of groups) v → LeastFrom own groups v (length groups) []
  none_settled h =
      let all : take (length groups) groups ≡ groups = take_all (length groups) groups (omega arith) in
      let none : drop (length groups) groups ≡ [] = drop_all (length groups) groups (omega arith) in
      let P : List (List (Columns C)) → Type 0 = λ (x : List (List (Columns C))). IsLeastSelection (own ++ rows_of x) (drop (length groups) groups) v [] in
      let Q : List (List (Columns C)) → Type 0 = λ (x : List (List (Columns C))). IsLeastSelection (own ++ rows_of groups) x v [] in
      subst P (sym all) (subst Q (sym none) (record {
        count = refl;
        spans = (let R : List (Columns C) → Type 0 = λ (x : List (Columns C)). InSpan x v in subst R (sym (append-nil (own ++ rows_of groups))) h);
        least = only;
      }))
    where
      only : (others : List Bool) → length others ≡ 0 → InSpan ((own ++ rows_of groups) ++ chosen_rows others []) v → (others ≡ []) ⊎ IsLesser [] others
      only [] count m = inl refl
      only (other ∷ others) count m = absurd (omega arith)
