-- Members of spans, row by row.
use Rattle.std.proofs.Common.{◌≡◌, ◌⊎◌, inl, inr, zero, suc, true, false, List, [], ◌∷◌, ◌++◌, All, refl, sym, ap, ◌∙◌, subst, arith, suc-le-suc}
use native.Mathlib.Nat.{le_of_suc-le-suc}
use Rattle.span_model.specs.Columns.{Columns, empty, ◌△◌}
use Rattle.span_model.specs.Span.{difference, InSpan, Spans, IsSum}
use Rattle.span_model.proofs.Sets.{△_comm, △_assoc, △-empty, empty-△, △_cancel, △_cancel_right, △_shared}

module _ {C : Type 0} where
  pub empty_in : (rows : List (Columns C)) → InSpan rows empty
  empty_in rows = ([], refl)

  -- another name for the same set
  pub in_as : (rows : List (Columns C)) {v w : Columns C} → v ≡ w → InSpan rows v → InSpan rows w
  in_as rows e h = subst (λ (x : Columns C). InSpan rows x) e h

  pub in_later : (row : Columns C) (rows : List (Columns C)) (v : Columns C) → InSpan rows v → InSpan (row ∷ rows) v
  in_later row rows v (picks, e) = (false ∷ picks, e)

  pub in_with : (row : Columns C) (rows : List (Columns C)) (v : Columns C) → InSpan rows v → InSpan (row ∷ rows) (row △ v)
  in_with row rows v (picks, e) = (true ∷ picks, ap (λ x. row △ x) e)

  pub in_none : (v : Columns C) → InSpan [] v → v ≡ empty
  in_none v ([], e) = sym e
  in_none v (pick ∷ picks, e) = sym e

  -- the set does without the row, or is the row's difference from a set that does
  pub in_cases : (row : Columns C) (rows : List (Columns C)) (v : Columns C) → InSpan (row ∷ rows) v
      → InSpan rows v ⊎ ((w : Columns C) × InSpan rows w × (row △ w ≡ v))
  in_cases row rows v ([], e) = inl ([], e)
  in_cases row rows v (true ∷ picks, e) = inr (difference picks rows, (picks, refl), e)
  in_cases row rows v (false ∷ picks, e) = inl (picks, e)

  pub in_sum : (rows : List (Columns C)) (v w : Columns C) → InSpan rows v → InSpan rows w → InSpan rows (v △ w)
  in_sum [] v w h k = in_as [] (ap (λ x. x △ w) (sym (in_none v h))) (in_as [] (sym (empty-△ w)) k)
  in_sum (row ∷ rows) v w h k = elim (in_cases row rows v h) [
    | inl x ↦ elim (in_cases row rows w k) [
      | inl y ↦ in_later row rows _ (in_sum rows v w x y)
      | inr y ↦ in_as (row ∷ rows) (sym (△_assoc row v y.0) ∙ ap (λ u. u △ y.0) (△_comm row v) ∙ △_assoc v row y.0 ∙ ap (λ u. v △ u) y.2)
          (in_with row rows _ (in_sum rows v y.0 x y.1))
    ]
    | inr x ↦ elim (in_cases row rows w k) [
      | inl y ↦ in_as (row ∷ rows) (sym (△_assoc row x.0 w) ∙ ap (λ u. u △ w) x.2) (in_with row rows _ (in_sum rows x.0 w x.1 y))
      | inr y ↦ in_as (row ∷ rows) (sym (△_shared row x.0 y.0) ∙ ap (λ u. u △ (row △ y.0)) x.2 ∙ ap (λ u. v △ u) y.2)
          (in_later row rows _ (in_sum rows x.0 y.0 x.1 y.1))
    ]
  ]

  pub in_head : (row : Columns C) (rows : List (Columns C)) → InSpan (row ∷ rows) row
  in_head row rows = in_as (row ∷ rows) (△-empty row) (in_with row rows empty (empty_in rows))

  pub spans_none : (rows : List (Columns C)) → Spans rows []
  spans_none rows v h = in_as rows (sym (in_none v h)) (empty_in rows)

  pub spans_cons : (rows : List (Columns C)) (v : Columns C) (vs : List (Columns C)) → InSpan rows v → Spans rows vs → Spans rows (v ∷ vs)
  spans_cons rows v vs h k u m = elim (in_cases v vs u m) [
    | inl x ↦ k u x
    | inr x ↦ in_as rows x.2 (in_sum rows v x.0 h (k x.0 x.1))
  ]

  pub spans_head : (rows : List (Columns C)) (v : Columns C) (vs : List (Columns C)) → Spans rows (v ∷ vs) → InSpan rows v
  spans_head rows v vs h = h v (in_head v vs)

  pub spans_tail : (rows : List (Columns C)) (v : Columns C) (vs : List (Columns C)) → Spans rows (v ∷ vs) → Spans rows vs
  spans_tail rows v vs h u m = h u (in_later v vs u m)

  pub spans_later : (row : Columns C) (rows : List (Columns C)) → Spans (row ∷ rows) rows
  spans_later row rows v h = in_later row rows v h

  pub spans_all : (rows less : List (Columns C)) → All (InSpan rows) less → Spans rows less
  spans_all rows [] h = spans_none rows
  spans_all rows (v ∷ vs) h = spans_cons rows v vs (h 0 v (omega arith)) (spans_all rows vs (λ k d lt. h (suc k) d (suc-le-suc lt)))

  pub all_in : (rows : List (Columns C)) → All (InSpan rows) rows
  all_in [] k d lt = absurd (omega arith)
  all_in (row ∷ rows) zero d lt = in_head row rows
  all_in (row ∷ rows) (suc k) d lt = in_later row rows _ (all_in rows k d (le_of_suc-le-suc lt))

  pub in_behind : (rows more : List (Columns C)) → Spans (rows ++ more) rows
  in_behind [] more = spans_none more
  in_behind (row ∷ rows) more =
      spans_cons (row ∷ (rows ++ more)) row rows (in_head row (rows ++ more)) (λ v h. in_later row (rows ++ more) v (in_behind rows more v h))

  pub in_front : (more rows : List (Columns C)) → Spans (more ++ rows) rows
  in_front [] rows v h = h
  in_front (row ∷ more) rows v h = in_later row (more ++ rows) v (in_front more rows v h)

  -- what the rows of two lists span together is a difference of a member of each
  pub in_parts : (a b : List (Columns C)) (v : Columns C) → InSpan (a ++ b) v
      → (x : Columns C) × (y : Columns C) × InSpan a x × InSpan b y × (x △ y ≡ v)
  in_parts [] b v h = (empty, v, empty_in [], h, empty-△ v)
  in_parts (row ∷ a) b v h = elim (in_cases row (a ++ b) v h) [
    | inl m ↦ (let p = in_parts a b v m in (p.0, p.1, in_later row a p.0 p.2, p.3, p.4))
    | inr m ↦ (let p = in_parts a b m.0 m.1 in (row △ p.0, p.1, in_with row a p.0 p.2, p.3, △_assoc row p.0 p.1 ∙ ap (λ u. row △ u) p.4 ∙ m.2))
  ]

  pub together : (a b : List (Columns C)) → IsSum (a ++ b) a b
  together a b v = (in_parts a b v, λ m. in_as (a ++ b) m.4 (in_sum (a ++ b) m.0 m.1 (in_behind a b m.0 m.2) (in_front a b m.1 m.3)))

  -- both lists in the span of rows are so together
  pub spans_both : (rows a b : List (Columns C)) → Spans rows a → Spans rows b → Spans rows (a ++ b)
  spans_both rows a b h k v m = let p = in_parts a b v m in in_as rows p.4 (in_sum rows p.0 p.1 (h p.0 p.2) (k p.1 p.3))

  -- to span is transitive
  pub spans_follow : (a b c : List (Columns C)) → Spans a b → Spans b c → Spans a c
  spans_follow a b c h k v m = h v (k v m)

  -- a set that needs a row can take the row's place
  pub in_exchange : (row : Columns C) (rows : List (Columns C)) (v : Columns C) → InSpan (row ∷ rows) v
      → InSpan rows v ⊎ (InSpan rows (v △ row) × InSpan (v ∷ rows) row)
  in_exchange row rows v h = elim (in_cases row rows v h) [
    | inl m ↦ inl m
    | inr m ↦ inr (
      in_as rows (sym (△_cancel row m.0) ∙ ap (λ u. row △ u) m.2 ∙ △_comm row v) m.1,
      in_as (v ∷ rows) (ap (λ u. u △ m.0) (sym m.2) ∙ △_cancel_right row m.0) (in_with v rows m.0 m.1),
    )
  ]
