-- What a leak reaches: closures that stay within a span, and closures that are grown for many candidates together.
use Rattle.std.proofs.Common.{◌≡◌, ◌≢◌, ◌⊎◌, inl, inr, ℕ, ◌<◌, ◌≤◌, suc, List, [], ◌∷◌, ◌++◌, length, get_or, refl, sym, ap, ◌∙◌, subst, arith, suc-le-suc}
use Rattle.std.specs.List.{Contains}
use Rattle.std.proofs.lemmas.List.{append-nil, get_or_past}
use Rattle.std.proofs.lemmas.Bool.{cases_lt}
use Rattle.span_model.specs.Columns.{Columns, empty, ◌△◌, set_of}
use Rattle.span_model.specs.Span.{InSpan, Spans, IsIndependent, IsMeet}
use Rattle.span_model.specs.Attack.{Product, HasAttack}
use Rattle.span_model.specs.Closure.{Step, operand, co_operand, co_operands, IsChain, IsClosed}
use Rattle.span_model.proofs.Sets.{△_cancel_right}
use Rattle.span_model.proofs.Members.{in_as, in_none, in_parts, in_sum, in_behind, in_front, spans_none, spans_both, spans_cons, spans_follow}
use Rattle.span_model.proofs.Ranks.{independent_at_most, independent_in_front}
use Rattle.span_model.specs.AttackLaws.{LeaksAreClosed}
use Rattle.gf2_span.proofs.Leads.{row_in}
use Rattle.gf2_span.specs.Basis.{Basis, row_sets}
use Rattle.tightprove.specs.Classes.{class_at, class_rows, IsPartner, AreClassesOf, Leaks, MeetEmpty, MeetOnly, IsClean, KeepsLeaks, IsLeakOf}
use Rattle.tightprove.specs.Growth.{rows_of_all, MeetsWithin, IsHull, IsGrown, HasRowOutside, IsSaturated, span_at, ArePieces}
use Rattle.tightprove.specs.declared.class.Class.{Class}

-- ---- spans

module _ {C : Type 0} where
  pub spans_self : (rows : List (Columns C)) → Spans rows rows
  spans_self rows v m = m

  -- rows with more behind them span rows with less behind them
  pub spans_beside : (a b less more : List (Columns C)) → Spans b a → Spans more less → Spans (b ++ more) (a ++ less)
  spans_beside a b less more h k = spans_both (b ++ more) a less
      (spans_follow (b ++ more) b a (in_behind b more) h)
      (spans_follow (b ++ more) more less (in_front b more) k)

  -- a closure stays within a span, or comes to a step that leads out of it
  along : (products : List (Product C)) (span : List (Columns C)) (v : Columns C) (Out : Type 0)
      → ((step : Step) → step.product < length products → Spans span (co_operand products step) ⊎ (InSpan (operand products step ++ span) v → Out))
      → (steps : List Step) → IsChain products v steps → Spans span (co_operands products steps) ⊎ Out
  along products span v Out each [] chain = inl (spans_none span)
  along products span v Out each (step ∷ before) chain = elim (along products span v Out each before chain.2) [
    | inl inside ↦ elim (each step chain.0) [
      | inl here ↦ inl (spans_both span (co_operand products step) (co_operands products before) here inside)
      | inr leads ↦ inr (leads (spans_beside (operand products step) (operand products step) (co_operands products before) span
          (spans_self (operand products step)) inside v chain.1))
    ]
    | inr out ↦ inr out
  ]

  pub closure_stays : (products : List (Product C)) (span : List (Columns C)) (v : Columns C) (Out : Type 0)
      → ((step : Step) → step.product < length products → Spans span (co_operand products step) ⊎ (InSpan (operand products step ++ span) v → Out))
      → IsClosed products v → InSpan span v ⊎ Out
  closure_stays products span v Out each closed = elim (along products span v Out each closed.0 closed.1) [
    | inl inside ↦ inl (inside v closed.2)
    | inr out ↦ inr out
  ]

  -- an independent part that leaves a row out has fewer rows
  pub fewer_rows : (part rows : List (Columns C)) (v : Columns C) → IsIndependent part → Spans rows part → InSpan rows v → ¬ InSpan part v
      → length part < length rows
  fewer_rows part rows v free within there out =
      let h : length (v ∷ part) ≤ length rows = independent_at_most (v ∷ part) rows (independent_in_front part v free out) (spans_cons rows v part there within) in
      omega (arith, h)

-- ---- leaks, by classes

pub leak_some : (products : List (Product ℕ)) (v : Columns ℕ) → Leaks products v → v ≢ empty
leak_some products v leak = leak.0

-- a leak stays within a span, or comes to a class whose rows lead out of it
pub leak_stays : (classes : List Class) (products : List (Product ℕ)) (span : List (Columns ℕ)) (v : Columns ℕ) (Out : Type 0) → AreClassesOf products classes
    → ((i j : ℕ) → IsPartner classes i j → Spans span (class_rows classes j) ⊎ (InSpan (class_rows classes i ++ span) v → Out))
    → Leaks products v → InSpan span v ⊎ Out
leak_stays classes products span v Out are each leak =
    closure_stays products span v Out at_step leak.1
  where
    at_step : (step : Step) → step.product < length products → Spans span (co_operand products step) ⊎ (InSpan (operand products step ++ span) v → Out)
    at_step step lt =
        let c = are.covered step lt in
        elim (each c.0 c.1 c.2) [
          | inl here ↦ inl (λ u m. here u ((c.3.co_operand_rows u).1 m))
          | inr leads ↦ inr (λ m. leads (spans_beside (operand products step) (class_rows classes c.0) span span
              (λ u k. (c.3.operand_rows u).1 k) (spans_self span) v m))
        ]

-- no candidate outside a hull is a leak
pub hull_keeps : (classes : List Class) (candidates hull meet : List (Columns ℕ)) → IsHull classes candidates hull → IsMeet meet candidates hull
    → KeepsLeaks classes candidates meet
hull_keeps classes candidates hull meet is_hull is_meet products are v m leak =
    elim (leak_stays classes products hull v (InSpan hull v) are (λ i j p. elim (is_hull i j p) [ inl x ↦ inl x | inr x ↦ inr (x v m) ]) leak) [
      | inl x ↦ (is_meet v).1 (m, x)
      | inr x ↦ (is_meet v).1 (m, x)
    ]

pub keeps_self : (classes : List Class) (rows : List (Columns ℕ)) → KeepsLeaks classes rows rows
keeps_self classes rows products are v m leak = m

pub keeps_follow : (classes : List Class) (a b c : List (Columns ℕ)) → KeepsLeaks classes a b → KeepsLeaks classes b c → KeepsLeaks classes a c
keeps_follow classes a b c h k products are v m leak = k products are v (h products are v m leak) leak

-- ---- spans grown for all the candidates

pub grown_none : (classes : List Class) (candidates : List (Columns ℕ)) → IsGrown classes candidates []
grown_none classes candidates products are =
    record { steps = []; reached = λ v m. tt; spanned = spans_none [] }

pub grown_less : (classes : List Class) (candidates span less : List (Columns ℕ)) → Spans span less → IsGrown classes candidates span → IsGrown classes candidates less
grown_less classes candidates span less h grown products are =
    let g = grown products are in
    record { steps = g.steps; reached = g.reached; spanned = spans_follow (co_operands products g.steps) span less g.spanned h }

-- one more co-operand, of a class that holds all the candidates
grown_step : (classes : List Class) (candidates span : List (Columns ℕ)) (i j : ℕ) → IsPartner classes i j
    → Spans (class_rows classes i ++ span) candidates → IsGrown classes candidates span → IsGrown classes candidates (class_rows classes j ++ span)
grown_step classes candidates span i j partner holds grown products are =
    let g = grown products are in
    let s = are.genuine i j partner in
    record {
      steps = s.0 ∷ g.steps;
      reached = λ v m. (
        s.1.product,
        spans_beside (class_rows classes i) (operand products s.0) span (co_operands products g.steps) (λ u k. (s.1.operand_rows u).0 k) g.spanned v (holds v m),
        g.reached v m,
      );
      spanned = spans_beside (class_rows classes j) (co_operand products s.0) span (co_operands products g.steps) (λ u k. (s.1.co_operand_rows u).0 k) g.spanned;
    }

pub grown_all : (classes : List Class) (candidates span : List (Columns ℕ)) (i : ℕ) (js : List ℕ) → ((j : ℕ) → Contains js j → IsPartner classes i j)
    → Spans (class_rows classes i ++ span) candidates → IsGrown classes candidates span → IsGrown classes candidates (rows_of_all classes js ++ span)
grown_all classes candidates span i [] partners holds grown = grown
grown_all classes candidates span i (j ∷ js) partners holds grown =
    let more = rows_of_all classes js ++ span in
    grown_less classes candidates (class_rows classes j ++ more) ((class_rows classes j ++ rows_of_all classes js) ++ span)
    (spans_both (class_rows classes j ++ more) (class_rows classes j ++ rows_of_all classes js) span
    (spans_beside (class_rows classes j) (class_rows classes j) (rows_of_all classes js) more (spans_self (class_rows classes j)) (in_behind (rows_of_all classes js) span))
    (spans_follow (class_rows classes j ++ more) more span (in_front (class_rows classes j) more) (in_front (rows_of_all classes js) span)))
    (grown_step classes candidates more i j (partners j (0, omega arith, refl))
    (spans_follow (class_rows classes i ++ more) (class_rows classes i ++ span) candidates
    (spans_beside (class_rows classes i) (class_rows classes i) span more (spans_self (class_rows classes i)) (in_front (rows_of_all classes js) span)) holds)
    (grown_all classes candidates span i js (λ k c. partners k (suc c.0, suc-le-suc c.1, c.2)) holds grown))

-- a candidate in a span that is grown for all of them is a leak
pub grown_leak : (classes : List Class) (candidates span : List (Columns ℕ)) → IsGrown classes candidates span
    → (v : Columns ℕ) → InSpan candidates v → InSpan span v → v ≢ empty → IsLeakOf classes v
grown_leak classes candidates span grown v m h some products are =
    let g = grown products are in
    (some, (g.steps, g.reached v m, g.spanned v h))

-- a leak that spans all the candidates is in a span that is grown for them as far as it goes
pub leak_in_grown : (classes : List Class) (candidates : Basis) (span : List (Columns ℕ)) (v : Columns ℕ)
    → Spans span (row_sets candidates) ⊎ IsSaturated classes candidates span → Spans (v ∷ []) (row_sets candidates) → InSpan (row_sets candidates) v
    → (products : List (Product ℕ)) → AreClassesOf products classes → Leaks products v → InSpan span v
leak_in_grown classes candidates span v ended alone m products are leak = elim ended [
  | inl within ↦ within v m
  | inr saturated ↦ elim (leak_stays classes products span v ⊥ are (each saturated) leak) [ inl x ↦ x | inr x ↦ absurd x ]
]
  where
    each : IsSaturated classes candidates span → (i j : ℕ) → IsPartner classes i j → Spans span (class_rows classes j) ⊎ (InSpan (class_rows classes i ++ span) v → ⊥)
    each saturated i j partner = elim (saturated i j partner) [
      | inl x ↦ inl x
      | inr out ↦ inr (λ h. out.2 (spans_cons (class_rows classes i ++ span) v [] h (spans_none (class_rows classes i ++ span)) (set_of (get_or candidates.rows out.0 []))
          (alone (set_of (get_or candidates.rows out.0 [])) (row_in candidates.rows out.0 out.1))))
    ]

-- the pieces hold all leaks among the candidates, where these have nothing in common with the span
pub pieces_hold : (classes : List Class) (candidates : Basis) (span : List (Columns ℕ)) (pieces : List Basis)
    → ArePieces classes candidates span pieces → MeetEmpty (row_sets candidates) span
    → (products : List (Product ℕ)) → AreClassesOf products classes → (v : Columns ℕ) → InSpan (row_sets candidates) v → Leaks products v
    → (n : ℕ) × (n < length pieces) × InSpan (row_sets (span_at pieces n)) v
pieces_hold classes candidates span pieces split apart products are v m leak =
    elim (leak_stays classes products span v ((n : ℕ) × (n < length pieces) × InSpan (row_sets (span_at pieces n)) v) are each leak) [
      | inl x ↦ absurd (leak_some products v leak (apart v m x))
      | inr x ↦ x
    ]
  where
    each : (i j : ℕ) → IsPartner classes i j
        → Spans span (class_rows classes j) ⊎ (InSpan (class_rows classes i ++ span) v → (n : ℕ) × (n < length pieces) × InSpan (row_sets (span_at pieces n)) v)
    each i j partner = elim (split.parts i j partner) [
      | inl x ↦ inl x
      | inr parts ↦ inr (λ h. elim (parts v m h) [ inl e ↦ absurd (leak_some products v leak e) | inr p ↦ p ])
    ]

-- ---- classes that are not near

-- rows that have only members of the span in common with the candidates and the span together have with the span only members of it in common with the candidates
pub apart_within : (candidates rows span joint : List (Columns ℕ)) → Spans joint candidates → Spans joint span → MeetOnly rows joint span → MeetsWithin candidates rows span
apart_within candidates rows span joint of_candidates of_span apart v m h =
    let p = in_parts rows span v h in
    let shared : InSpan joint p.0 = in_as joint (ap (λ (u : Columns ℕ). u △ p.1) (sym p.4) ∙ △_cancel_right p.0 p.1) (in_sum joint v p.1 (of_candidates v m) (of_span p.1 p.3)) in
    in_as span p.4 (in_sum span p.0 p.1 (apart p.0 p.2 shared) p.3)

-- then a candidate outside the span is outside of the rows with the span
pub apart_outside : (candidates : Basis) (rows span joint : List (Columns ℕ)) → Spans joint (row_sets candidates) → Spans joint span → MeetOnly rows joint span
    → HasRowOutside candidates.rows span → HasRowOutside candidates.rows (rows ++ span)
apart_outside candidates rows span joint of_candidates of_span apart out =
    (out.0, out.1, λ h. out.2 (apart_within (row_sets candidates) rows span joint of_candidates of_span apart (set_of (get_or candidates.rows out.0 [])) (row_in candidates.rows out.0 out.1) h))

-- ---- all classes

-- past the end there are no partners
pub partner_of : (classes : List Class) (i j : ℕ) → IsPartner classes i j → i < length classes
partner_of classes i j partner = elim (cases_lt i (length classes)) [
  | inl within ↦ within
  | inr past ↦
      let none : (class_at classes i).partners ≡ [] = ap (λ (c : Class). c.partners) (get_or_past classes i (record { rows = []; partners = [] }) past) in
      let P : List ℕ → Type 0 = λ js. Contains js j in
      let found : Contains [] j = subst P none partner in
      absurd (omega (arith, found.1))
]

-- products whose classes are all clean have no attack
pub all_clean : LeaksAreClosed ℕ → (classes : List Class) (products : List (Product ℕ)) → AreClassesOf products classes
    → ((i : ℕ) → i < length classes → IsClean classes (class_rows classes i)) → ¬ HasAttack products
all_clean law classes products are clean attack =
    let v = attack.0 in
    let leak : Leaks products v = (law products v).0 attack.1 in
    elim (leak_stays classes products [] v ⊥ are
    (λ i j p. inr (λ h. clean i (partner_of classes i j p) products are v (rw append-nil at h) leak)) leak) [
      | inl x ↦ leak_some products v leak (in_none v x)
      | inr x ↦ x
    ]
