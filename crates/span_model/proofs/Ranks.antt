-- Independent lists, and how long they are.
use Rattle.std.proofs.Common.{◌≡◌, ◌≤◌, ◌⊎◌, inl, inr, ℕ, zero, suc, Bool, true, false, not, List, [], ◌∷◌, ◌++◌, length, get_or, All, eqb, eq-eqb, ne_eqb, refl, sym, ap, ◌∙◌, subst, arith, suc-le-suc, true≢false, le_antisymm}
use native.Mathlib.Nat.{le_of_suc-le-suc, eq-or-lt_of_le}
use Rattle.std.specs.Bool.{beq}
use mathlib.Core.Path.{fun_ext}
use Rattle.span_model.specs.Columns.{Columns, empty, ◌△◌}
use Rattle.span_model.specs.Span.{difference, InSpan, Spans, SameSpan, IsIndependent, HasRank}
use Rattle.span_model.proofs.Sets.{△_comm, △_self, △-empty, △_cancel, △_cancel_right, △_shared, △_empty_same}
use Rattle.span_model.proofs.Members.{empty_in, in_as, in_later, in_with, in_none, in_cases, in_sum, in_head, in_parts, spans_none, spans_cons, spans_head, spans_tail, spans_later, spans_all}

module _ {C : Type 0} where
  -- no row is in the span of the rows behind it
  abbrev pub Free : List (Columns C) → Type 0
  Free [] = Unit {0}
  Free (v ∷ vs) = (¬ InSpan vs v) × Free vs

  pub free_independent : (vs : List (Columns C)) → Free vs → IsIndependent vs
  free_independent [] free picks e k lt = absurd (omega arith)
  free_independent (v ∷ vs) free [] e k lt = refl
  free_independent (v ∷ vs) free (true ∷ picks) e k lt = absurd (free.0 (picks, △_empty_same v (difference picks vs) e))
  free_independent (v ∷ vs) free (false ∷ picks) e zero lt = refl
  free_independent (v ∷ vs) free (false ∷ picks) e (suc k) lt = free_independent vs free.1 picks e k (le_of_suc-le-suc lt)

  pub independent_free : (vs : List (Columns C)) → IsIndependent vs → Free vs
  independent_free [] independent = tt
  independent_free (v ∷ vs) independent = (
    λ member. true≢false (independent (true ∷ member.0) (ap (λ x. v △ x) member.1 ∙ △_self v) 0 (omega arith)),
    independent_free vs (λ picks e k lt. independent (false ∷ picks) e (suc k) (suc-le-suc lt)),
  )

  -- the list with one row taken out of its span: either it needs no row, or one fewer does without it
  record Shorter (row : Columns C) (rows vs : List (Columns C)) : Type 0 where
    less : List (Columns C)
    free : Free less
    within : Spans rows less
    below : Spans vs less
    count : length vs ≡ suc (length less)
    pivot : Columns C
    rest : Columns C
    pivot_in : InSpan vs pivot
    rest_in : InSpan rows rest
    pivot_is : row △ rest ≡ pivot

  shorten_first : (row : Columns C) (rows : List (Columns C)) (v : Columns C) (vs : List (Columns C)) → Free (v ∷ vs) → InSpan (row ∷ rows) v
      → Spans rows vs → Spans rows (v ∷ vs) ⊎ Shorter row rows (v ∷ vs)
  shorten_first row rows v vs free member within = elim (in_cases row rows v member) [
    | inl x ↦ inl (spans_cons rows v vs x within)
    | inr x ↦ inr (record {
      less = vs;
      free = free.1;
      within = within;
      below = spans_later v vs;
      count = refl;
      pivot = v;
      rest = x.0;
      pivot_in = in_head v vs;
      rest_in = x.1;
      pivot_is = x.2;
    })
  ]

  shorten_next : (row : Columns C) (rows : List (Columns C)) (v : Columns C) (vs : List (Columns C)) → Free (v ∷ vs) → InSpan (row ∷ rows) v
      → Shorter row rows vs → Shorter row rows (v ∷ vs)
  shorten_next row rows v vs free member s = elim (in_cases row rows v member) [
    | inl x ↦ record {
      less = v ∷ s.less;
      free = (λ m. free.0 (s.below v m), s.free);
      within = spans_cons rows v s.less x s.within;
      below = spans_cons (v ∷ vs) v s.less (in_head v vs) (λ u m. in_later v vs u (s.below u m));
      count = ap suc s.count;
      pivot = s.pivot;
      rest = s.rest;
      pivot_in = in_later v vs s.pivot s.pivot_in;
      rest_in = s.rest_in;
      pivot_is = s.pivot_is;
    }
    | inr x ↦ record {
      less = (v △ s.pivot) ∷ s.less;
      free = (λ m. free.0 (in_as vs (△_cancel_right v s.pivot) (in_sum vs (v △ s.pivot) s.pivot (s.below (v △ s.pivot) m) s.pivot_in)), s.free);
      within = spans_cons rows (v △ s.pivot) s.less
          (in_as rows (sym (△_shared row x.0 s.rest) ∙ ap (λ u. u △ (row △ s.rest)) x.2 ∙ ap (λ u. v △ u) s.pivot_is)
          (in_sum rows x.0 s.rest x.1 s.rest_in))
          s.within;
      below = spans_cons (v ∷ vs) (v △ s.pivot) s.less (in_with v vs s.pivot s.pivot_in) (λ u m. in_later v vs u (s.below u m));
      count = ap suc s.count;
      pivot = s.pivot;
      rest = s.rest;
      pivot_in = in_later v vs s.pivot s.pivot_in;
      rest_in = s.rest_in;
      pivot_is = s.pivot_is;
    }
  ]

  shorten : (row : Columns C) (rows vs : List (Columns C)) → Free vs → Spans (row ∷ rows) vs → Spans rows vs ⊎ Shorter row rows vs
  shorten row rows [] free within = inl (spans_none rows)
  shorten row rows (v ∷ vs) free within = elim (shorten row rows vs free.1 (spans_tail (row ∷ rows) v vs within)) [
    | inl x ↦ shorten_first row rows v vs free (spans_head (row ∷ rows) v vs within) x
    | inr x ↦ inr (shorten_next row rows v vs free (spans_head (row ∷ rows) v vs within) x)
  ]

  pub free_at_most : (rows vs : List (Columns C)) → Free vs → Spans rows vs → length vs ≤ length rows
  free_at_most [] [] free within = omega arith
  free_at_most [] (v ∷ vs) free within =
      absurd (free.0 (in_as vs (sym (in_none v (spans_head [] v vs within))) (empty_in vs)))
  free_at_most (row ∷ rows) vs free within = elim (shorten row rows vs free within) [
    | inl x ↦ (let le : length vs ≤ length rows = free_at_most rows vs free x in omega arith)
    | inr x ↦ (let le : length x.less ≤ length rows = free_at_most rows x.less x.free x.within in
        let count : length vs ≡ suc (length x.less) = x.count in omega arith)
  ]

  pub independent_at_most : (vs rows : List (Columns C)) → IsIndependent vs → Spans rows vs → length vs ≤ length rows
  independent_at_most vs rows independent within = free_at_most rows vs (independent_free vs independent) within

  pub same_length : (a b : List (Columns C)) → IsIndependent a → IsIndependent b → SameSpan a b → length a ≡ length b
  same_length a b x y same =
      le_antisymm (independent_at_most a b x (λ v m. (same v).0 m)) (independent_at_most b a y (λ v m. (same v).1 m))

  pub one_rank : (rows : List (Columns C)) (m n : ℕ) → HasRank rows m → HasRank rows n → m ≡ n
  one_rank rows m n x y =
      sym x.count
      ∙ same_length x.basis y.basis x.independent y.independent (λ v. (λ h. (y.same_span v).1 ((x.same_span v).0 h), λ h. (x.same_span v).1 ((y.same_span v).0 h)))
      ∙ y.count

  pub independent_in_front : (rows : List (Columns C)) (v : Columns C) → IsIndependent rows → ¬ InSpan rows v → IsIndependent (v ∷ rows)
  independent_in_front rows v independent outside = free_independent (v ∷ rows) (outside, independent_free rows independent)

  in_one : (v w : Columns C) → InSpan (v ∷ []) w → (w ≡ empty) ⊎ (w ≡ v)
  in_one v w m = elim (in_cases v [] w m) [
    | inl x ↦ inl (in_none w x)
    | inr x ↦ inr (sym x.2 ∙ ap (λ u. v △ u) (in_none x.0 x.1) ∙ △-empty v)
  ]

  -- a row in the span of rows and one more set: the rows span it, or with it they span that set
  in_one_more : (row : Columns C) (rows : List (Columns C)) (v : Columns C) → InSpan (rows ++ v ∷ []) row → InSpan rows row ⊎ InSpan (row ∷ rows) v
  in_one_more row rows v m = let p = in_parts rows (v ∷ []) row m in elim (in_one v p.1 p.3) [
    | inl e ↦ inl (in_as rows (sym (△-empty p.0) ∙ ap (λ u. p.0 △ u) (sym e) ∙ p.4) p.2)
    | inr e ↦ inr (in_as (row ∷ rows)
        (ap (λ u. u △ p.0) (sym p.4 ∙ △_comm p.0 p.1) ∙ △_cancel_right p.1 p.0 ∙ e)
        (in_with row rows p.0 p.2))
  ]

  free_behind : (rows : List (Columns C)) (v : Columns C) → Free rows → ¬ InSpan rows v → Free (rows ++ v ∷ [])
  free_behind [] v free outside = (outside, tt)
  free_behind (row ∷ rows) v free outside = (
    λ m. elim (in_one_more row rows v m) [ inl x ↦ free.0 x | inr x ↦ outside x ],
    free_behind rows v free.1 (λ m. outside (in_later row rows v m)),
  )

  pub independent_behind : (rows : List (Columns C)) (v : Columns C) → IsIndependent rows → ¬ InSpan rows v → IsIndependent (rows ++ v ∷ [])
  independent_behind rows v independent outside =
      free_independent (rows ++ v ∷ []) (free_behind rows v (independent_free rows independent) outside)

-- the set of one column
unit : ℕ → Columns ℕ
unit n c = eqb c n

-- the sets of one column below n
abbrev units : ℕ → List (Columns ℕ)
units zero = []
units (suc n) = unit n ∷ units n

length-units : (n : ℕ) → length (units n) ≡ n
length-units zero = refl
length-units (suc n) = ap suc (length-units n)

-- no column at n or above is in the set
abbrev IsBelow : ℕ → Columns ℕ → Type 0
IsBelow n v = (c : ℕ) → n ≤ c → v c ≡ false

below_less : (n : ℕ) (v : Columns ℕ) → IsBelow (suc n) v → v n ≡ false → IsBelow n v
below_less n v above here c le = elim (eq-or-lt_of_le le) [
  | inl e ↦ subst (λ (k : ℕ). v k ≡ false) e here
  | inr lt ↦ above c lt
]

unit_here : (n : ℕ) → unit n n ≡ true
unfolding unit
unit_here n = eq-eqb n n refl

unit_above : (n c : ℕ) → suc n ≤ c → unit n c ≡ false
unfolding unit
unit_above n c le = ne_eqb c n (λ e. omega arith)

next_units : (n : ℕ) (v : Columns ℕ) → ((w : Columns ℕ) → IsBelow n w → InSpan (units n) w) → IsBelow (suc n) v → (b : Bool) → v n ≡ b
    → InSpan (unit n ∷ units n) v
next_units n v spanned above false e = in_later (unit n) (units n) v (spanned v (below_less n v above e))
next_units n v spanned above true e =
    in_as (unit n ∷ units n) (△_cancel (unit n) v) (in_with (unit n) (units n) (unit n △ v) (spanned (unit n △ v)
    (below_less n (unit n △ v)
    (λ c le. ap (λ x. not (beq x (v c))) (unit_above n c le) ∙ ap (λ x. not (beq false x)) (above c le))
    (ap (λ x. not (beq x (v n))) (unit_here n) ∙ ap (λ x. not (beq true x)) e))))

-- a set with no column at n or above is spanned by the sets of one column below n
units_span : (n : ℕ) (v : Columns ℕ) → IsBelow n v → InSpan (units n) v
units_span zero v below = in_as [] (fun_ext (λ c. sym (below c (omega arith)))) (empty_in [])
units_span (suc n) v below = next_units n v (λ w. units_span n w) below (v n) refl

pub below_columns : (n : ℕ) (rows : List (Columns ℕ)) → All (λ row. (c : ℕ) → n ≤ c → row c ≡ false) rows → IsIndependent rows → length rows ≤ n
below_columns n rows below independent =
    let le : length rows ≤ length (units n) = independent_at_most rows (units n) independent (spans_all (units n) rows (λ k d lt. units_span n (get_or rows k d) (below k d lt))) in
    let count : length (units n) ≡ n = length-units n in
    omega arith
