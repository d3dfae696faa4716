-- The leak of an attack has a derivation. What a column is stays open, so no test of spans is at hand, and that there is one is said by a double
-- negation.
use Rattle.std.proofs.Common.{◌≡◌, ◌≢◌, ◌<◌, ◌≤◌, ◌+◌, ◌⊎◌, inl, inr, ℕ, zero, suc, true, false, Bool, List, [], ◌∷◌, ◌++◌, length, map, get_or, set, take, replicate, refl, sym, ap, ◌∙◌, subst, arith, All}
use native.Mathlib.Nat.{le_of_suc-le-suc}
use Rattle.std.specs.Prelude.{slice_index}
use Rattle.std.specs.List.{Contains}
use Rattle.std.proofs.lemmas.Bool.{cases_lt}
use Rattle.std.proofs.lemmas.List.{append-nil, append_assoc, length-append, length-map, length-set, length-replicate, get_or_append_left, get_or_at, get_or_past, take_more, take_all}
use Rattle.span_model.specs.Columns.{Columns, empty}
use Rattle.span_model.specs.Span.{InSpan, Spans}
use Rattle.span_model.specs.Attack.{Product, IsLeak}
use Rattle.span_model.specs.Closure.{Step as ProductStep, operand, co_operand, co_operands, IsClosed}
use Rattle.span_model.proofs.Members.{in_behind, in_front, spans_both}
use Rattle.span_model.proofs.Closing.{attack_closes}
use Rattle.span_select.specs.Selection.{rows_of, chosen_rows, IsLesser, IsLeastSelection, AreLeastNumbers, numbers_of}
use Rattle.linear_view.specs.declared.operand.Side.TheVariants.{Left, Right}
use Rattle.linear_view.specs.Sides.{step_of}
use Rattle.attack_model.specs.declared.attack.Step.{Step}
use Rattle.attack_cert.specs.Levels.{steps_of, none, taken, left_out}
use Rattle.attack_cert.specs.Derivation.{IsDerivation}
use Rattle.attack_cert.specs.Levelled.{operand_steps, levelled_steps, IsSpanned, IsSplit, ReachLeak}
use Rattle.attack_cert.specs.Kept.{levelled_at, AreSupported, kept_places, AreReached}
use Rattle.linear_view.specs.declared.operand.Operand.{Operand}
use Rattle.attack_cert.specs.declared.levels.Levelled.{Levelled}
use Rattle.attack_cert.specs.declared.reached.Kept.{Kept}
use Rattle.attack_cert.proofs.Those.{split_length, in_tail}
use Rattle.attack_cert.proofs.Levelling.{two_more, Levelling, levelling_begins, levelling_goes_on, levelling_ends, levelling_is_stuck}
use Rattle.attack_cert.proofs.Supporting.{supported}
use Rattle.attack_cert.proofs.Picks.{IsRising, rising_from}
use Rattle.attack_cert.proofs.Selecting.{rows_upto}
use Rattle.attack_cert.proofs.Marks.{IsMarked, mark_still, mark_here, mark_was}
use Rattle.attack_cert.proofs.Reaching.{Reaching, none_marked, reaching_begins, reaching_skips, reaching_keeps, reaching_ends, uses_below, root_below}
use Rattle.attack_cert.proofs.Numbering.{numbered_step, numbers_more, are_numbered}
use Rattle.attack_cert.proofs.Deriving.{is_derivation}

either : (A : Type 0) → ¬ ¬ (A ⊎ ¬ A)
either A not = not (inr (λ a. not (inl a)))

-- ---- least selections

-- a list that is not empty ends in a last item
last_split : (xs : List Bool) (n : ℕ) → length xs ≡ suc n → (ys : List Bool) × (b : Bool) × (xs ≡ ys ++ b ∷ []) × (length ys ≡ n)
last_split [] n e = absurd (omega arith)
last_split (x ∷ []) zero e = ([], x, refl, refl)
last_split (x ∷ []) (suc n) e = absurd (omega arith)
last_split (x ∷ y ∷ xs) zero e = absurd (omega arith)
last_split (x ∷ y ∷ xs) (suc n) e =
    let r = last_split (y ∷ xs) n (omega arith) in
    (x ∷ r.0, r.1, ap (λ (zs : List Bool). x ∷ zs) r.2, ap suc r.3)

-- a selection that is lesser stays so with one more pick that is the same
lesser_more : (p o : List Bool) (b : Bool) → length p ≡ length o → IsLesser p o → IsLesser (p ++ b ∷ []) (o ++ b ∷ [])
lesser_more p o b e l =
    let within : l.last < length o = picked_within o l.last l.picked in
    record {
      last = l.last;
      left_out = get_or_append_left p (b ∷ []) false l.last (omega arith) ∙ l.left_out;
      picked = get_or_append_left o (b ∷ []) false l.last within ∙ l.picked;
      same_after = λ k lt. elim (cases_lt k (length o)) [
        | inl less ↦ get_or_append_left p (b ∷ []) false k (omega arith) ∙ l.same_after k lt ∙ sym (get_or_append_left o (b ∷ []) false k less)
        | inr more ↦ elim (cases_lt (length o) k) [
          | inl far ↦ get_or_past (p ++ b ∷ []) k false (omega (arith, length-append p (b ∷ []))) ∙ sym (get_or_past (o ++ b ∷ []) k false (omega (arith, length-append o (b ∷ []))))
          | inr near ↦ get_or_at p b [] false k (omega arith) ∙ sym (get_or_at o b [] false k (omega arith))
        ]
      ];
    } where
      picked_within : (o : List Bool) (k : ℕ) → get_or o k false ≡ true → k < length o
      picked_within o k h = elim (cases_lt k (length o)) [ inl lt ↦ lt | inr ge ↦ (let past = get_or_past o k false ge in let wrong : false ≡ true = sym past ∙ h in cc) ]

-- without a last group a selection is lesser than with it
lesser_last : (p o : List Bool) → length p ≡ length o → IsLesser (p ++ false ∷ []) (o ++ true ∷ [])
lesser_last p o e = record {
  last = length o;
  left_out = get_or_at p false [] false (length o) e;
  picked = get_or_at o true [] false (length o) refl;
  same_after = λ k lt. get_or_past (p ++ false ∷ []) k false (omega (arith, length-append p (false ∷ []))) ∙ sym (get_or_past (o ++ true ∷ []) k false (omega (arith, length-append o (true ∷ []))));
}

module _ {C : Type 0} where
  rows_last : (groups : List (List (Columns C))) (group : List (Columns C)) → rows_of (groups ++ group ∷ []) ≡ rows_of groups ++ group
  rows_last [] group = append-nil group
  rows_last (g ∷ groups) group = ap (λ (rows : List (Columns C)). g ++ rows) (rows_last groups group) ∙ sym (append_assoc g (rows_of groups) group)

  chosen_without : (picks : List Bool) (groups : List (List (Columns C))) (group : List (Columns C)) → length picks ≡ length groups
      → chosen_rows (picks ++ false ∷ []) (groups ++ group ∷ []) ≡ chosen_rows picks groups
  chosen_without [] [] group e = refl
  chosen_without [] (g ∷ groups) group e = absurd (omega arith)
  chosen_without (p ∷ picks) [] group e = absurd (omega arith)
  chosen_without (true ∷ picks) (g ∷ groups) group e = ap (λ (rows : List (Columns C)). g ++ rows) (chosen_without picks groups group (omega arith))
  chosen_without (false ∷ picks) (g ∷ groups) group e = chosen_without picks groups group (omega arith)

  chosen_with : (picks : List Bool) (groups : List (List (Columns C))) (group : List (Columns C)) → length picks ≡ length groups
      → chosen_rows (picks ++ true ∷ []) (groups ++ group ∷ []) ≡ chosen_rows picks groups ++ group
  chosen_with [] [] group e = append-nil group
  chosen_with [] (g ∷ groups) group e = absurd (omega arith)
  chosen_with (p ∷ picks) [] group e = absurd (omega arith)
  chosen_with (true ∷ picks) (g ∷ groups) group e =
      ap (λ (rows : List (Columns C)). g ++ rows) (chosen_with picks groups group (omega arith)) ∙ sym (append_assoc g (chosen_rows picks groups) group)
  chosen_with (false ∷ picks) (g ∷ groups) group e = chosen_with picks groups group (omega arith)

  chosen_spans : (picks : List Bool) (groups : List (List (Columns C))) → Spans (rows_of groups) (chosen_rows picks groups)
  chosen_spans [] groups v m = in_behind [] (rows_of groups) v m
  chosen_spans (p ∷ picks) [] v m = m
  chosen_spans (true ∷ picks) (g ∷ groups) v m =
      spans_both (g ++ rows_of groups) g (chosen_rows picks groups) (in_behind g (rows_of groups)) (λ u n. in_front g (rows_of groups) u (chosen_spans picks groups u n)) v m
  chosen_spans (false ∷ picks) (g ∷ groups) v m = in_front g (rows_of groups) v (chosen_spans picks groups v m)

  -- the order of the rows is free
  to_own : (own rows group : List (Columns C)) → Spans ((own ++ group) ++ rows) (own ++ (rows ++ group))
  to_own own rows group = spans_both ((own ++ group) ++ rows) own (rows ++ group)
      (λ v m. in_behind (own ++ group) rows v (in_behind own group v m))
      (spans_both ((own ++ group) ++ rows) rows group (in_front (own ++ group) rows) (λ v m. in_behind (own ++ group) rows v (in_front own group v m)))

  from_own : (own rows group : List (Columns C)) → Spans (own ++ (rows ++ group)) ((own ++ group) ++ rows)
  from_own own rows group = spans_both (own ++ (rows ++ group)) (own ++ group) rows
      (spans_both (own ++ (rows ++ group)) own group (in_behind own (rows ++ group)) (λ v m. in_front own (rows ++ group) v (in_front rows group v m)))
      (λ v m. in_front own (rows ++ group) v (in_behind rows group v m))

  module _ (v : Columns C) where
    without_last : (own : List (Columns C)) (groups : List (List (Columns C))) (group : List (Columns C)) (picks : List Bool)
        → IsLeastSelection own groups v picks → IsLeastSelection own (groups ++ group ∷ []) v (picks ++ false ∷ [])
    without_last own groups group picks l = record {
      count = length-append picks (false ∷ []) ∙ ap (λ (n : ℕ). n + 1) l.count ∙ sym (length-append groups (group ∷ []));
      spans = subst (λ (rows : List (Columns C)). InSpan (own ++ rows) v) (sym (chosen_without picks groups group l.count)) l.spans;
      least = λ others many h.
          let r = last_split others (length groups) (omega (arith, length-append groups (group ∷ []))) in
          compare r.0 r.1 others r.2 r.3 h;
    } where
      compare : (o : List Bool) (b : Bool) (others : List Bool) → others ≡ o ++ b ∷ [] → length o ≡ length groups → InSpan (own ++ chosen_rows others (groups ++ group ∷ [])) v
          → (others ≡ picks ++ false ∷ []) ⊎ IsLesser (picks ++ false ∷ []) others
      compare o true others is many h = inr (subst (λ (x : List Bool). IsLesser (picks ++ false ∷ []) x) (sym is) (lesser_last picks o (l.count ∙ sym many)))
      compare o false others is many h =
          let h' : InSpan (own ++ chosen_rows o groups) v
          = subst (λ (rows : List (Columns C)). InSpan (own ++ rows) v) (ap (λ (x : List Bool). chosen_rows x (groups ++ group ∷ [])) is ∙ chosen_without o groups group many) h in
          elim (l.least o many h') [
            | inl e ↦ inl (is ∙ ap (λ (x : List Bool). x ++ false ∷ []) e)
            | inr less ↦ inr (subst (λ (x : List Bool). IsLesser (picks ++ false ∷ []) x) (sym is) (lesser_more picks o false (l.count ∙ sym many) less))
          ]

    with_last : (own : List (Columns C)) (groups : List (List (Columns C))) (group : List (Columns C)) (picks : List Bool) → ¬ InSpan (own ++ rows_of groups) v
        → IsLeastSelection (own ++ group) groups v picks → IsLeastSelection own (groups ++ group ∷ []) v (picks ++ true ∷ [])
    with_last own groups group picks needed l = record {
      count = length-append picks (true ∷ []) ∙ ap (λ (n : ℕ). n + 1) l.count ∙ sym (length-append groups (group ∷ []));
      spans = subst (λ (rows : List (Columns C)). InSpan (own ++ rows) v) (sym (chosen_with picks groups group l.count)) (from_own own (chosen_rows picks groups) group v l.spans);
      least = λ others many h.
          let r = last_split others (length groups) (omega (arith, length-append groups (group ∷ []))) in
          compare r.0 r.1 others r.2 r.3 h;
    } where
      compare : (o : List Bool) (b : Bool) (others : List Bool) → others ≡ o ++ b ∷ [] → length o ≡ length groups → InSpan (own ++ chosen_rows others (groups ++ group ∷ [])) v
          → (others ≡ picks ++ true ∷ []) ⊎ IsLesser (picks ++ true ∷ []) others
      compare o false others is many h =
          let h' : InSpan (own ++ chosen_rows o groups) v
          = subst (λ (rows : List (Columns C)). InSpan (own ++ rows) v) (ap (λ (x : List Bool). chosen_rows x (groups ++ group ∷ [])) is ∙ chosen_without o groups group many) h in
          absurd (needed (spans_both (own ++ rows_of groups) own (chosen_rows o groups) (in_behind own (rows_of groups))
          (λ u n. in_front own (rows_of groups) u (chosen_spans o groups u n)) v h'))
      compare o true others is many h =
          let h' : InSpan (own ++ (chosen_rows o groups ++ group)) v
          = subst (λ (rows : List (Columns C)). InSpan (own ++ rows) v) (ap (λ (x : List Bool). chosen_rows x (groups ++ group ∷ [])) is ∙ chosen_with o groups group many) h in
          elim (l.least o many (to_own own (chosen_rows o groups) group v h')) [
            | inl e ↦ inl (is ∙ ap (λ (x : List Bool). x ++ true ∷ []) e)
            | inr less ↦ inr (subst (λ (x : List Bool). IsLesser (picks ++ true ∷ []) x) (sym is) (lesser_more picks o true (l.count ∙ sym many) less))
          ]

    nothing_less : (own : List (Columns C)) → InSpan (own ++ []) v → IsLeastSelection own [] v []
    nothing_less own h = record { count = refl; spans = h; least = λ others many m. inl (nil others many) } where
      nil : (others : List Bool) → length others ≡ 0 → others ≡ []
      nil [] e = refl
      nil (x ∷ xs) e = absurd (omega arith)

    -- where all the groups span, some selection is the least
    least_exists : (groups : List (List (Columns C))) (n : ℕ) → n ≤ length groups → (own : List (Columns C)) → InSpan (own ++ rows_of (take n groups)) v
        → ¬ ¬ ((picks : List Bool) × IsLeastSelection own (take n groups) v picks)
    least_exists groups zero le own h not = not ([], nothing_less own h)
    least_exists groups (suc n) le own h not =
        let group : List (Columns C) = get_or groups n [] in
        let one : n + 1 ≡ suc n = omega arith in
        let is : take (suc n) groups ≡ take n groups ++ group ∷ [] = ap (λ (k : ℕ). take k groups) (sym one) ∙ take_more groups n [] (omega arith) in
        let P : List (List (Columns C)) → Type 0 = λ gs. (picks : List Bool) × IsLeastSelection own gs v picks in
        let whole : InSpan (own ++ (rows_of (take n groups) ++ group)) v
        = subst (λ (rows : List (Columns C)). InSpan (own ++ rows) v) (ap rows_of is ∙ rows_last (take n groups) group) h in
        either (InSpan (own ++ rows_of (take n groups)) v) (λ e. elim e [
          | inl held ↦ least_exists groups n (omega arith) own held (λ x. not (subst P (sym is) (x.0 ++ false ∷ [], without_last own (take n groups) group x.0 x.1)))
          | inr fails ↦ least_exists groups n (omega arith) (own ++ group) (to_own own (rows_of (take n groups)) group v whole)
              (λ x. not (subst P (sym is) (x.0 ++ true ∷ [], with_last own (take n groups) group x.0 fails x.1)))
        ])

    numbers_exist : (own : List (Columns C)) (groups : List (List (Columns C))) → InSpan (own ++ rows_of groups) v → ¬ ¬ ((numbers : List ℕ) × AreLeastNumbers own groups v numbers)
    numbers_exist own groups h not =
        let all : take (length groups) groups ≡ groups = take_all (length groups) groups (omega arith) in
        least_exists groups (length groups) (omega arith) own (subst (λ (gs : List (List (Columns C))). InSpan (own ++ rows_of gs) v) (sym all) h)
        (λ x. not (numbers_of x.0, (x.0, subst (λ (gs : List (List (Columns C))). IsLeastSelection own gs v x.0) all x.1, refl)))

-- ---- marks and numbers

abbrev mark_all : List Bool → List ℕ → List Bool
mark_all needed [] = needed
mark_all needed (u ∷ us) = mark_all (set needed u true) us

length-mark_all : (needed : List Bool) (us : List ℕ) → length (mark_all needed us) ≡ length needed
length-mark_all needed [] = refl
length-mark_all needed (u ∷ us) = length-mark_all (set needed u true) us ∙ length-set needed u true

all_still : (needed : List Bool) (us : List ℕ) (p : ℕ) → IsMarked needed p → IsMarked (mark_all needed us) p
all_still needed [] p m = m
all_still needed (u ∷ us) p m = all_still (set needed u true) us p (mark_still needed u p m)

all_marks : (needed : List Bool) (us : List ℕ) → All (λ u. u < length needed) us → All (IsMarked (mark_all needed us)) us
all_marks needed [] below k d h = absurd (omega arith)
all_marks needed (u ∷ us) below zero d h = all_still (set needed u true) us u (mark_here needed u (below 0 u (omega arith)))
all_marks needed (u ∷ us) below (suc k) d h =
    all_marks (set needed u true) us (λ j e l. let b = below (suc j) e (omega arith) in let s = length-set needed u true in omega arith) k d (le_of_suc-le-suc h)

all_others : (needed : List Bool) (us : List ℕ) (p : ℕ) → IsMarked (mark_all needed us) p → IsMarked needed p ⊎ Contains us p
all_others needed [] p m = inl m
all_others needed (u ∷ us) p m = elim (all_others (set needed u true) us p m) [
  | inl x ↦ elim (mark_was needed u p x) [ inl old ↦ inl old | inr e ↦ inr (0, omega arith, e) ]
  | inr c ↦ inr (in_tail p u us c)
]

-- places below a count have numbers
numbers_made : (places : List ℕ) (n : ℕ) → IsRising places → All (λ p. p < n) places → (i : ℕ) → i ≤ length places
    → (numbers : List ℕ) × (length numbers ≡ n) × ((k : ℕ) → k < i → get_or numbers (get_or places k 0) 0 ≡ k)
numbers_made places n rise below zero le = (replicate n 0, length-replicate n 0, λ k lt. absurd (omega arith))
numbers_made places n rise below (suc i) le =
    let r = numbers_made places n rise below i (omega arith) in
    let count = r.1 in
    let b = below i 0 (omega arith) in (
      set r.0 (get_or places i 0) i,
      length-set r.0 (get_or places i 0) i ∙ count,
      λ k lt. numbers_more r.0 places i rise (omega arith) (omega arith) r.2 k (omega arith),
    )

-- every operand of so many products
all_operands : (n : ℕ) → (operands : List Operand) × (operand_steps operands ≡ steps_of n)
all_operands zero = ([], refl)
all_operands (suc n) =
    let r = all_operands n in
    let one : n + 1 ≡ suc n = omega arith in
    ((r.0 ++ record { product = n; side = Left } ∷ []) ++ record { product = n; side = Right } ∷ [], two_more r.0 n r.1 ∙ ap steps_of one)

-- ---- levels

module _ {C : Type 0} (products : List (Product C)) (leak : Columns C) (nonempty : leak ≢ empty) where
  splits : (rows : List (Columns C)) (pending : List Operand) → ¬ ¬ ((level : List Operand) × (rest : List Operand) × IsSplit products leak rows pending level rest)
  splits rows [] not = not ([], [], record { spanned = none; others = none })
  splits rows (t ∷ pending) not = splits rows pending (λ x. either (IsSpanned products leak rows (step_of t)) (λ e. elim e [
    | inl held ↦ not (t ∷ x.0, x.1, record { spanned = taken held x.2.spanned; others = left_out (λ fails. fails held) x.2.others })
    | inr fails ↦ not (x.0, t ∷ x.1, record { spanned = left_out fails x.2.spanned; others = taken fails x.2.others })
  ]))

  further : (fuel : ℕ) → ((levels : List (List ProductStep)) (steps : List Levelled) (pending : List Operand) (rows : List (Columns C))
      → Levelling products leak levels steps pending rows → length pending < fuel → ¬ ¬ ((found : List Levelled) × ReachLeak products leak found))
      → (levels : List (List ProductStep)) (steps : List Levelled) (pending : List Operand) (rows : List (Columns C)) (level rest : List Operand)
      → Levelling products leak levels steps pending rows → length pending < suc fuel → ¬ InSpan rows leak → IsSplit products leak rows pending level rest → IsClosed products leak
      → ¬ ¬ ((found : List Levelled) × ReachLeak products leak found)
  further fuel on levels steps pending rows [] rest l lt fails s closed not = levelling_is_stuck products leak levels steps pending [] rest rows l fails s refl closed
  further fuel on levels steps pending rows (t ∷ level) rest l lt fails s closed not =
      let next = steps ++ map (λ (t : Operand). let s : Levelled = record { operand = t; lower = length steps } in s) (t ∷ level) in
      let grown = rows ++ co_operands products (operand_steps (t ∷ level)) in
      let parts = split_length (IsSpanned products leak rows) s.spanned s.others in
      let a = length-map level step_of in
      let b = length-map rest step_of in
      let c = length-map pending step_of in
      on (operand_steps (t ∷ level) ∷ levels) next rest grown
      (levelling_goes_on products leak levels steps next pending (t ∷ level) rest rows grown l fails s refl (λ v. (λ m. m, λ m. m)))
      (omega arith) not

  climbs : IsClosed products leak → (fuel : ℕ) (levels : List (List ProductStep)) (steps : List Levelled) (pending : List Operand) (rows : List (Columns C))
      → Levelling products leak levels steps pending rows → length pending < fuel → ¬ ¬ ((found : List Levelled) × ReachLeak products leak found)
  climbs closed zero levels steps pending rows l lt not = absurd (omega arith)
  climbs closed (suc fuel) levels steps pending rows l lt not = either (InSpan rows leak) (λ e. elim e [
    | inl held ↦ not (steps, levelling_ends products leak levels steps pending rows l nonempty held)
    | inr fails ↦ splits rows pending (λ x. further fuel (climbs closed fuel) levels steps pending rows x.0 x.1 l lt fails x.2 closed not)
  ])

  -- ---- the steps that are reached

  -- one place further down, where the rest of the way is known
  goes : (listed : List Levelled) (root : List ℕ) → AreSupported products leak listed → (place : ℕ) → suc place ≤ length listed
      → ((needed : List Bool) (kept : List Kept) → length needed ≡ length listed → Reaching products leak listed root place needed kept
      → ¬ ¬ ((new : List Bool) × (more : List Kept) × Reaching products leak listed root 0 new more))
      → (needed : List Bool) (kept : List Kept) → length needed ≡ length listed → Reaching products leak listed root (suc place) needed kept
      → (b : Bool) → get_or needed place false ≡ b
      → ¬ ¬ ((new : List Bool) × (more : List Kept) × Reaching products leak listed root 0 new more)
  goes listed root s place within on needed kept count r false e not =
      on needed kept count (reaching_skips products leak listed root place needed kept r (λ m. let wrong : false ≡ true = sym e ∙ m in cc)) not
  goes listed root s place within on needed kept count r true e not =
      let lower : List ProductStep = take (levelled_at listed place).lower (levelled_steps listed) in
      let own = operand products (step_of (levelled_at listed place).operand) in
      let groups = map (co_operand products) lower in
      let many = length-map lower (co_operand products) in
      let rows : rows_of groups ≡ co_operands products lower
      = sym (ap rows_of (take_all (length groups) groups (omega arith))) ∙ rows_upto products groups lower (length groups) refl
      ∙ ap (co_operands products) (take_all (length groups) lower (omega arith)) in
      let spanned : InSpan (own ++ rows_of groups) leak
      = subst (λ (rs : List (Columns C)). InSpan (own ++ rs) leak) (sym rows) (s.spanned place within) in
      numbers_exist leak own groups spanned (λ x.
      let before = uses_below products leak listed root s place x.0 within x.1 in
      let below : All (λ u. u < length needed) x.0 = λ k d h. let b = before k d h in omega arith in
      on (mark_all needed x.0) (record { place = place; uses = x.0 } ∷ kept)
      (length-mark_all needed x.0 ∙ count)
      (reaching_keeps products leak listed root place needed (mark_all needed x.0) kept x.0 r within e x.1 before
      (all_marks needed x.0 below) (all_others needed x.0) (all_still needed x.0)) not)

  descends : (listed : List Levelled) (root : List ℕ) → AreSupported products leak listed → (place : ℕ) → place ≤ length listed → (needed : List Bool) (kept : List Kept)
      → length needed ≡ length listed → Reaching products leak listed root place needed kept
      → ¬ ¬ ((new : List Bool) × (more : List Kept) × Reaching products leak listed root 0 new more)
  descends listed root s zero le needed kept count r not = not (needed, kept, r)
  descends listed root s (suc place) le needed kept count r not =
      goes listed root s place le (descends listed root s place (omega arith)) needed kept count r (get_or needed place false) refl not

  numbered : (listed : List Levelled) (root : List ℕ) (kept : List Kept) → ReachLeak products leak listed → AreReached products leak listed root kept
      → (steps : List Step) × (numbers : List ℕ) × IsDerivation products leak steps numbers
  numbered listed root kept found r =
      let places = kept_places kept in
      let made = numbers_made places (length listed) (rising_from places r.rise) r.below (length places) (omega arith) in (
        map (numbered_step listed made.0) kept,
        map (slice_index made.0) root,
        is_derivation products leak listed root (map (slice_index made.0) root) kept (map (numbered_step listed made.0) kept) nonempty found r
            (are_numbered listed root made.0 (map (slice_index made.0) root) kept (map (numbered_step listed made.0) kept) made.2 r.root_kept r.uses_kept refl refl),
      )

  derivation_exists : IsClosed products leak → ¬ ¬ ((steps : List Step) × (root : List ℕ) × IsDerivation products leak steps root)
  derivation_exists closed not =
      let all = all_operands (length products) in
      climbs closed (suc (length all.0)) [] [] all.0 [] (levelling_begins products leak all.0 all.1) (omega arith) (λ found.
      let listed = found.0 in
      let s = supported products leak listed found.1 in
      let groups = map (co_operand products) (levelled_steps listed) in
      let rows : rows_of groups ≡ co_operands products (levelled_steps listed)
      = sym (ap rows_of (take_all (length groups) groups (omega arith))) ∙ rows_upto products groups (levelled_steps listed) (length groups) refl
      ∙ ap (co_operands products) (take_all (length groups) (levelled_steps listed) (let m = length-map (levelled_steps listed) (co_operand products) in omega arith)) in
      numbers_exist leak [] groups (subst (λ (rs : List (Columns C)). InSpan rs leak) (sym rows) s.whole) (λ root.
      let blank = replicate (length listed) false in
      let count = length-replicate (length listed) false in
      let below : All (λ u. u < length blank) root.0 = λ k d h. let b = root_below products leak listed root.0 root.1 k d h in omega arith in
      let needed = mark_all blank root.0 in
      let many : length needed ≡ length listed = length-mark_all blank root.0 ∙ count in
      descends listed root.0 s (length listed) (omega arith) needed [] many
      (reaching_begins products leak listed root.0 needed blank (length listed) many (none_marked (length listed)) (all_marks blank root.0 below) (all_others blank root.0))
      (λ r. not (numbered listed root.0 r.1 found.1 (reaching_ends products leak listed root.0 r.0 r.1 r.2 root.1)))))

pub leak_derived : {C : Type 0} (products : List (Product C)) (leak : Columns C) → IsLeak products leak
    → ¬ ¬ ((steps : List Step) × (root : List ℕ) × IsDerivation products leak steps root)
leak_derived products leak l = derivation_exists products leak l.2.nonempty (attack_closes products l.0 leak l.1 l.2)
