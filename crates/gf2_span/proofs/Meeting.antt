-- The elimination that finds the members of a span and a sum of spans.
use Rattle.std.proofs.Common.{◌≡◌, ◌↔◌, ℕ, ◌+◌, ◌-◌, ◌<◌, ◌≤◌, zero, suc, Bool, true, false, not, List, [], ◌∷◌, ◌++◌, length, get_or, take, refl, sym, ap, ◌∙◌, subst, arith, suc-le-suc, inl, inr, IsTrue, MatchBool, Result, Ok, Err, IfOk}
use Rattle.gf2_span.specs.Basis.{Basis, row_sets}
use native.Mathlib.Nat.{le_of_suc-le-suc}
use Rattle.std.proofs.lemmas.Bool.{cases_lt, true≢false, false≢true}
use Rattle.std.proofs.lemmas.List.{take_all, take_more, length-map, length-append, get_or-map, get_or_append_left, get_or-append_right}
use Rattle.span_model.specs.Columns.{Columns, empty, ◌△◌, set_of, sets_of}
use Rattle.span_model.specs.Span.{difference, InSpan, Spans, SameSpan, IsIndependent, IsMeet}
use Rattle.span_model.proofs.Sets.{△_comm, △_assoc, △_self, △-empty, empty-△, △_cancel, △_cancel_right, △_shared, △_swap}
use Rattle.span_model.proofs.Members.{empty_in, in_as, in_sum, in_none, in_head, in_later, in_cases, in_behind, in_front, in_parts, spans_none, spans_cons, spans_later, spans_both}
use Rattle.gf2_span.specs.Rows.{HaveOwnLeads, HoldsNoLead}
use Rattle.gf2_span.specs.Echelon.{IsTraced}
use Rattle.gf2_span.proofs.Leads.{sets_push, own_none, own_independent, no_lead_empty, no_lead_sum, no_lead_as}

-- ---- selections

-- the selection with a row's pick turned over
pub toggle : List Bool → ℕ → List Bool
toggle [] zero = true ∷ []
toggle [] (suc k) = false ∷ toggle [] k
toggle (pick ∷ picks) zero = not pick ∷ picks
toggle (pick ∷ picks) (suc k) = pick ∷ toggle picks k

module _ {C : Type 0} where
  pub difference-toggle : (picks : List Bool) (k : ℕ) (rows : List (Columns C)) → k < length rows → difference (toggle picks k) rows ≡ difference picks rows △ get_or rows k empty
  unfolding toggle
  difference-toggle [] zero [] h = absurd (omega arith)
  difference-toggle [] (suc k) [] h = absurd (omega arith)
  difference-toggle (pick ∷ picks) zero [] h = absurd (omega arith)
  difference-toggle (pick ∷ picks) (suc k) [] h = absurd (omega arith)
  difference-toggle [] zero (row ∷ rows) h = △-empty row ∙ sym (empty-△ row)
  difference-toggle [] (suc k) (row ∷ rows) h = difference-toggle [] k rows (le_of_suc-le-suc h)
  difference-toggle (true ∷ picks) zero (row ∷ rows) h = sym (△_comm (row △ difference picks rows) row ∙ △_cancel row (difference picks rows))
  difference-toggle (false ∷ picks) zero (row ∷ rows) h = △_comm row (difference picks rows)
  difference-toggle (true ∷ picks) (suc k) (row ∷ rows) h =
      ap (λ x. row △ x) (difference-toggle picks k rows (le_of_suc-le-suc h)) ∙ sym (△_assoc row (difference picks rows) (get_or rows k empty))
  difference-toggle (false ∷ picks) (suc k) (row ∷ rows) h = difference-toggle picks k rows (le_of_suc-le-suc h)

  -- a selection that picks no row
  unpicked_empty : (picks : List Bool) (rows : List (Columns C)) → ((k : ℕ) → k < length rows → get_or picks k false ≡ false) → difference picks rows ≡ empty
  unpicked_empty [] rows none = refl
  unpicked_empty (pick ∷ picks) [] none = refl
  unpicked_empty (true ∷ picks) (row ∷ rows) none = absurd (true≢false (none zero (omega arith)))
  unpicked_empty (false ∷ picks) (row ∷ rows) none = unpicked_empty picks rows (λ k h. none (suc k) (suc-le-suc h))

  -- the two lists are as long, and each row differs from its trace by a member of the span
  pub IsNear : List (Columns C) → List (Columns C) → List (Columns C) → Type 0
  IsNear a [] [] = Unit {0}
  IsNear a [] (trace ∷ traces) = ⊥
  IsNear a (row ∷ rows) [] = ⊥
  IsNear a (row ∷ rows) (trace ∷ traces) = InSpan a (row △ trace) × IsNear a rows traces

  near_push : (a rows traces : List (Columns C)) (row trace : Columns C) → IsNear a rows traces → InSpan a (row △ trace) → IsNear a (rows ++ row ∷ []) (traces ++ trace ∷ [])
  unfolding IsNear
  near_push a [] [] row trace near h = (h, tt)
  near_push a [] (t ∷ traces) row trace near h = absurd near
  near_push a (r ∷ rows) [] row trace near h = absurd near
  near_push a (r ∷ rows) (t ∷ traces) row trace near h = (near.0, near_push a rows traces row trace near.1 h)

  near_long : (a rows traces : List (Columns C)) → IsNear a rows traces → length rows ≡ length traces
  unfolding IsNear
  near_long a [] [] near = refl
  near_long a [] (t ∷ traces) near = absurd near
  near_long a (r ∷ rows) [] near = absurd near
  near_long a (r ∷ rows) (t ∷ traces) near = ap suc (near_long a rows traces near.1)

  -- so does each selection of rows from the same selection of traces
  near_all : (a rows traces : List (Columns C)) (picks : List Bool) → IsNear a rows traces → InSpan a (difference picks rows △ difference picks traces)
  unfolding IsNear
  near_all a rows traces [] near = in_as a (sym (△_self empty)) (empty_in a)
  near_all a [] [] (pick ∷ picks) near = in_as a (sym (△_self empty)) (empty_in a)
  near_all a [] (t ∷ traces) (pick ∷ picks) near = absurd near
  near_all a (r ∷ rows) [] (pick ∷ picks) near = absurd near
  near_all a (r ∷ rows) (t ∷ traces) (true ∷ picks) near =
      in_as a (sym (△_swap r (difference picks rows) t (difference picks traces))) (in_sum a (r △ t) (difference picks rows △ difference picks traces) near.0 (near_all a rows traces picks near.1))
  near_all a (r ∷ rows) (t ∷ traces) (false ∷ picks) near = near_all a rows traces picks near.1

  -- what is known once the rows `taken` went through the elimination
  pub record IsMet (a taken rows traces meet : List (Columns C)) : Type 0 where
    pub near : IsNear a rows traces
    pub kept : Spans taken traces
    pub left : Spans a meet
    pub right : Spans taken meet
    pub whole : (v : Columns C) → InSpan taken v → (y : Columns C) × InSpan traces y × InSpan meet (v △ y)

  pub met_none : (a : List (Columns C)) → IsMet a [] [] [] []
  unfolding IsNear
  met_none a = record {
    near = tt;
    kept = λ v h. h;
    left = spans_none a;
    right = λ v h. h;
    whole = λ v h. (empty, empty_in [], in_as [] (sym (△-empty v)) h);
  }

  -- one more row in taken
  taken_cases : (taken : List (Columns C)) (row v : Columns C) → InSpan (taken ++ row ∷ []) v → InSpan (row ∷ taken) v
  taken_cases taken row v h = spans_both (row ∷ taken) taken (row ∷ []) (spans_later row taken) (spans_cons (row ∷ taken) row [] (in_head row taken) (spans_none (row ∷ taken))) v h

  taken_row : (taken : List (Columns C)) (row : Columns C) → InSpan (taken ++ row ∷ []) row
  taken_row taken row = in_front taken (row ∷ []) row (in_head row [])

  -- the set that is left of a taken row's trace is near what is left of the row
  rest_near : (a rows traces : List (Columns C)) (row rest trace : Columns C) (picks : List Bool) → IsNear a rows traces
      → InSpan a (row △ rest △ difference picks rows) → row △ trace ≡ difference picks traces → InSpan a (rest △ trace)
  rest_near a rows traces row rest trace picks near h e =
      let d : Columns C = difference picks rows in
      let both : InSpan a ((row △ rest △ difference picks rows) △ (difference picks rows △ difference picks traces)) =
      in_sum a (row △ rest △ difference picks rows) (difference picks rows △ difference picks traces) h (near_all a rows traces picks near) in
      let gone : (row △ rest △ difference picks rows) △ (difference picks rows △ difference picks traces) ≡ (row △ rest) △ difference picks traces =
      sym (△_assoc (row △ rest △ difference picks rows) (difference picks rows) (difference picks traces)) ∙ ap (λ x. x △ difference picks traces) (△_cancel_right (row △ rest) (difference picks rows)) in
      in_as a (gone ∙ ap (λ x. (row △ rest) △ x) (sym e) ∙ △_shared row rest trace) both

  trace_taken : (taken traces : List (Columns C)) (row trace : Columns C) (picks : List Bool) → Spans taken traces → row △ trace ≡ difference picks traces → InSpan (taken ++ row ∷ []) trace
  trace_taken taken traces row trace picks kept e =
      let of_traces : InSpan (taken ++ row ∷ []) (row △ trace) = in_behind taken (row ∷ []) (row △ trace) (kept (row △ trace) (picks, sym e)) in
      in_as (taken ++ row ∷ []) (△_cancel row trace) (in_sum (taken ++ row ∷ []) row (row △ trace) (taken_row taken row) of_traces)

  -- a row of which nothing is left: its trace is in both spans
  pub met_zero : (a taken rows traces meet new : List (Columns C)) (row rest trace : Columns C) (picks : List Bool) → IsMet a taken rows traces meet
      → InSpan a (row △ rest △ difference picks rows) → row △ trace ≡ difference picks traces → rest ≡ empty
      → SameSpan new (trace ∷ meet) → IsMet a (taken ++ row ∷ []) rows traces new
  met_zero a taken rows traces meet new row rest trace picks met h e none grown =
      let in_a : InSpan a trace = in_as a (ap (λ x. x △ trace) none ∙ empty-△ trace) (rest_near a rows traces row rest trace picks met.near h e) in
      let in_taken : InSpan (taken ++ row ∷ []) trace = trace_taken taken traces row trace picks met.kept e in
      let more : Spans new meet = λ v m. (grown v).1 (in_later trace meet v m) in
      let there : InSpan new trace = (grown trace).1 (in_head trace meet) in
      record {
        near = met.near;
        kept = λ v m. in_behind taken (row ∷ []) v (met.kept v m);
        left = λ v m. spans_cons a trace meet in_a met.left v ((grown v).0 m);
        right = λ v m. spans_cons (taken ++ row ∷ []) trace meet in_taken (λ u n. in_behind taken (row ∷ []) u (met.right u n)) v ((grown v).0 m);
        whole = λ v m. elim (in_cases row taken v (taken_cases taken row v m)) [
          | inl old ↦ (let w = met.whole v old in (w.0, w.1, more (v △ w.0) w.2))
          | inr part ↦
              (let w = met.whole part.0 part.1 in
              let d : Columns C = difference picks traces in
              let sum : InSpan new ((part.0 △ w.0) △ trace) = in_sum new (part.0 △ w.0) trace (more (part.0 △ w.0) w.2) there in
              let turned : w.0 △ (row △ trace) ≡ row △ (w.0 △ trace) = sym (△_assoc w.0 row trace) ∙ ap (λ x. x △ trace) (△_comm w.0 row) ∙ △_assoc row w.0 trace in
              let is : (part.0 △ w.0) △ trace ≡ v △ (w.0 △ (row △ trace)) =
              sym (ap (λ x. x △ (w.0 △ (row △ trace))) (sym part.2) ∙ ap (λ x. (row △ part.0) △ x) turned ∙ △_shared row part.0 (w.0 △ trace) ∙ sym (△_assoc part.0 w.0 trace)) in
              (w.0 △ (row △ trace), in_sum traces w.0 (row △ trace) w.1 (picks, sym e), in_as new is sum))
        ];
      }

  -- a row of which something is left
  pub met_rest : (a taken rows traces meet : List (Columns C)) (row rest trace : Columns C) (picks : List Bool) → IsMet a taken rows traces meet
      → InSpan a (row △ rest △ difference picks rows) → row △ trace ≡ difference picks traces
      → IsMet a (taken ++ row ∷ []) (rows ++ rest ∷ []) (traces ++ trace ∷ []) meet
  met_rest a taken rows traces meet row rest trace picks met h e =
      let in_taken : InSpan (taken ++ row ∷ []) trace = trace_taken taken traces row trace picks met.kept e in
      let old : Spans (traces ++ trace ∷ []) traces = in_behind traces (trace ∷ []) in
      let there : InSpan (traces ++ trace ∷ []) trace = in_front traces (trace ∷ []) trace (in_head trace []) in
      record {
        near = near_push a rows traces rest trace met.near (rest_near a rows traces row rest trace picks met.near h e);
        kept = spans_both (taken ++ row ∷ []) traces (trace ∷ []) (λ u n. in_behind taken (row ∷ []) u (met.kept u n)) (spans_cons (taken ++ row ∷ []) trace [] in_taken (spans_none (taken ++ row ∷ [])));
        left = met.left;
        right = λ v m. in_behind taken (row ∷ []) v (met.right v m);
        whole = λ v m. elim (in_cases row taken v (taken_cases taken row v m)) [
          | inl was ↦ (let w = met.whole v was in (w.0, old w.0 w.1, w.2))
          | inr part ↦
              (let w = met.whole part.0 part.1 in
              let row_in : InSpan (traces ++ trace ∷ []) row =
              in_as (traces ++ trace ∷ []) (△_cancel_right row trace) (in_sum (traces ++ trace ∷ []) (row △ trace) trace (old (row △ trace) (picks, sym e)) there) in
              let is : part.0 △ w.0 ≡ v △ (row △ w.0) = sym (ap (λ x. x △ (row △ w.0)) (sym part.2) ∙ △_shared row part.0 w.0) in
              (row △ w.0, in_sum (traces ++ trace ∷ []) row w.0 row_in (old w.0 w.1), in_as meet is w.2))
        ];
      }

  -- once all rows are taken, the meet has the members of both
  pub met_all : (a taken rows traces meet : List (Columns C)) → IsIndependent rows → ((v : Columns C) → InSpan a v → InSpan rows v → v ≡ empty) → IsMet a taken rows traces meet → IsMeet meet a taken
  met_all a taken rows traces meet independent apart met v = (
    λ m. (met.left v m, met.right v m),
    λ m.
        let w = met.whole v m.1 in
        let e : difference w.1.0 traces ≡ w.0 = w.1.1 in
        let y_in : InSpan a w.0 = in_as a (△_cancel v w.0) (in_sum a v (v △ w.0) m.0 (met.left (v △ w.0) w.2)) in
        let rows_in : InSpan a (difference w.1.0 rows) =
        in_as a (△_cancel_right (difference w.1.0 rows) (difference w.1.0 traces))
        (in_sum a (difference w.1.0 rows △ difference w.1.0 traces) (difference w.1.0 traces) (near_all a rows traces w.1.0 met.near) (in_as a (sym e) y_in)) in
        let no_row : difference w.1.0 rows ≡ empty = apart (difference w.1.0 rows) rows_in (w.1.0, refl) in
        let none : difference w.1.0 traces ≡ empty = unpicked_empty w.1.0 traces (λ k h. independent w.1.0 no_row k (omega (arith, near_long a rows traces met.near))) in
        in_as meet (ap (λ x. v △ x) (sym e ∙ none) ∙ △-empty v) w.2,
  )

  -- the way from a set to another over a third one
  over : (a b c : Columns C) → (a △ b) △ (b △ c) ≡ a △ c
  over a b c = △_assoc a b (b △ c) ∙ ap (λ x. a △ x) (△_cancel b c)

  -- ---- rows that were reduced by a span

  -- one more reduced row, where rows were reduced by the span of `base`
  pub reduced_more : (base taken old new : List (Columns C)) (row rest : Columns C) → SameSpan (old ++ base) (taken ++ base) → SameSpan new (rest ∷ old) → InSpan base (row △ rest)
      → SameSpan (new ++ base) ((taken ++ row ∷ []) ++ base)
  reduced_more base taken old new row rest before grown same =
      let all : List (Columns C) = (taken ++ row ∷ []) ++ base in
      let base_in : Spans ((taken ++ row ∷ []) ++ base) base = in_front (taken ++ row ∷ []) base in
      let front_in : Spans ((taken ++ row ∷ []) ++ base) (taken ++ row ∷ []) = in_behind (taken ++ row ∷ []) base in
      let row_here : InSpan ((taken ++ row ∷ []) ++ base) row = front_in row (in_front taken (row ∷ []) row (in_head row [])) in
      let taken_here : Spans ((taken ++ row ∷ []) ++ base) (taken ++ base) =
      spans_both ((taken ++ row ∷ []) ++ base) taken base (λ v m. front_in v (in_behind taken (row ∷ []) v m)) base_in in
      let rest_here : InSpan ((taken ++ row ∷ []) ++ base) rest =
      in_as ((taken ++ row ∷ []) ++ base) (△_cancel row rest) (in_sum ((taken ++ row ∷ []) ++ base) row (row △ rest) row_here (base_in (row △ rest) same)) in
      let old_here : Spans ((taken ++ row ∷ []) ++ base) old = λ v m. taken_here v ((before v).0 (in_behind old base v m)) in
      let new_here : Spans ((taken ++ row ∷ []) ++ base) new = λ v m. spans_cons ((taken ++ row ∷ []) ++ base) rest old rest_here old_here v ((grown v).0 m) in
      let base_there : Spans (new ++ base) base = in_front new base in
      let old_there : Spans (new ++ base) (old ++ base) =
      spans_both (new ++ base) old base (λ v m. in_behind new base v ((grown v).1 (in_later rest old v m))) base_there in
      let rest_there : InSpan (new ++ base) rest = in_behind new base rest ((grown rest).1 (in_head rest old)) in
      let row_there : InSpan (new ++ base) row =
      in_as (new ++ base) (△_cancel_right row rest) (in_sum (new ++ base) (row △ rest) rest (base_there (row △ rest) same) rest_there) in
      let taken_there : Spans (new ++ base) taken = λ v m. old_there v ((before v).1 (in_behind taken base v m)) in
      λ v. (
        spans_both ((taken ++ row ∷ []) ++ base) new base new_here base_in v,
        spans_both (new ++ base) (taken ++ row ∷ []) base (spans_both (new ++ base) taken (row ∷ []) taken_there (spans_cons (new ++ base) row [] row_there (spans_none (new ++ base)))) base_there v,
      )

-- ---- sets without the greatest columns of some rows

-- no member has any of the greatest columns of the rows `base`
abbrev pub HoldNoLeads : (base rows : List (Columns ℕ)) → Type 0
HoldNoLeads base rows = (v : Columns ℕ) → InSpan rows v → HoldsNoLead base v

pub no_leads_none : (base : List (Columns ℕ)) → HoldNoLeads base []
no_leads_none base v m k c h at = ap (λ (x : Columns ℕ). x c) (in_none v m)

pub no_leads_cons : (base rows : List (Columns ℕ)) (row : Columns ℕ) → HoldNoLeads base rows → HoldsNoLead base row → HoldNoLeads base (row ∷ rows)
no_leads_cons base rows row all one v m = elim (in_cases row rows v m) [
  | inl old ↦ all v old
  | inr part ↦ no_lead_as base (row △ part.0) v part.2 (no_lead_sum base row part.0 one (all part.0 part.1))
]

pub no_leads_as : (base rows others : List (Columns ℕ)) → Spans others rows → HoldNoLeads base others → HoldNoLeads base rows
no_leads_as base rows others spans all v m = all v (spans v m)

no_leads_push : (base rows : List (Columns ℕ)) (row : Columns ℕ) → HoldNoLeads base rows → HoldsNoLead base row → HoldNoLeads base (rows ++ row ∷ [])
no_leads_push base rows row all one = no_leads_as base (rows ++ row ∷ []) (row ∷ rows) (taken_cases rows row) (no_leads_cons base rows row all one)

-- a set that differs from one without the greatest columns by a member without them
no_lead_left : (base rows : List (Columns ℕ)) (v w : Columns ℕ) → HoldNoLeads base rows → HoldsNoLead base v → InSpan rows (v △ w) → HoldsNoLead base w
no_lead_left base rows v w all clear same = no_lead_as base (v △ (v △ w)) w (△_cancel v w) (no_lead_sum base v (v △ w) clear (all (v △ w) same))

-- a member of the sum without the greatest columns of one part is a member of the other
in_other : (base more : List (Columns ℕ)) (v : Columns ℕ) → HaveOwnLeads base → HoldNoLeads base more → InSpan (more ++ base) v → HoldsNoLead base v → InSpan more v
in_other base more v own all m clear =
    let p = in_parts more base v m in
    let y_is : p.0 △ v ≡ p.1 = ap (λ x. p.0 △ x) (sym p.4) ∙ △_cancel p.0 p.1 in
    let none : p.1 ≡ empty = no_lead_empty base p.1 own p.3 (no_lead_as base (p.0 △ v) p.1 y_is (no_lead_sum base p.0 v (all p.0 p.2) clear)) in
    in_as more (sym (△-empty p.0) ∙ ap (λ x. p.0 △ x) (sym none) ∙ p.4) p.2

-- the answer whether rows together span a row
pub spans_answer : (base more rows : List (Columns ℕ)) (row rest left : Columns ℕ) (zero_left : Bool) → HaveOwnLeads base → HoldNoLeads base more → SameSpan (more ++ base) (rows ++ base)
    → InSpan base (row △ rest) → HoldsNoLead base rest → (left ≡ empty) ↔ InSpan more rest → IsTrue zero_left ↔ (left ≡ empty)
    → MatchBool zero_left (InSpan (rows ++ base) row) (¬ InSpan (rows ++ base) row)
spans_answer base more rows row rest left true own all same by clear inside test =
    let rest_in : InSpan more rest = inside.0 (test.0 refl) in
    let row_in : InSpan (more ++ base) row =
    in_as (more ++ base) (△_cancel_right row rest) (in_sum (more ++ base) (row △ rest) rest (in_front more base (row △ rest) by) (in_behind more base rest rest_in)) in
    (same row).0 row_in
spans_answer base more rows row rest left false own all same by clear inside test = λ m.
    let row_in : InSpan (more ++ base) row = (same row).1 m in
    let rest_in : InSpan (more ++ base) rest =
    in_as (more ++ base) (△_cancel row rest) (in_sum (more ++ base) row (row △ rest) row_in (in_front more base (row △ rest) by)) in
    false≢true (test.1 (inside.1 (in_other base more rest own all rest_in clear)))

-- ---- rows and their traces

-- a row was added, and its trace to the trace
pub traced_more : (rows traces : List (List Bool)) (row trace now trace_now new trace_new led trace_led : List Bool) (k : ℕ) → length traces ≡ length rows → k < length rows
    → led ≡ get_or rows k [] → trace_led ≡ get_or traces k trace_led → set_of new ≡ set_of now △ set_of led → set_of trace_new ≡ set_of trace_now △ set_of trace_led
    → IsTraced rows traces row trace now trace_now → IsTraced rows traces row trace new trace_new
traced_more rows traces row trace now trace_now new trace_new led trace_led k many h is trace_is sum trace_sum traced =
    let led_is : get_or (sets_of rows) k empty ≡ set_of led = get_or-map set_of rows k [] empty h ∙ ap set_of (sym is) in
    let trace_led_is : get_or (sets_of traces) k empty ≡ set_of trace_led = get_or-map set_of traces k trace_led empty (omega arith) ∙ ap set_of (sym trace_is) in
    let rows_toggled : difference (toggle traced.picks k) (sets_of rows) ≡ difference traced.picks (sets_of rows) △ set_of led =
    difference-toggle traced.picks k (sets_of rows) (omega (arith, length-map rows set_of)) ∙ ap (λ (x : Columns ℕ). difference traced.picks (sets_of rows) △ x) led_is in
    let traces_toggled : difference (toggle traced.picks k) (sets_of traces) ≡ difference traced.picks (sets_of traces) △ set_of trace_led =
    difference-toggle traced.picks k (sets_of traces) (omega (arith, length-map traces set_of)) ∙ ap (λ (x : Columns ℕ). difference traced.picks (sets_of traces) △ x) trace_led_is in
    record {
      picks = toggle traced.picks k;
      row_part =
          ap (λ (x : Columns ℕ). set_of row △ x) sum ∙ sym (△_assoc (set_of row) (set_of now) (set_of led))
          ∙ ap (λ (x : Columns ℕ). x △ set_of led) traced.row_part ∙ sym rows_toggled;
      trace_part =
          ap (λ (x : Columns ℕ). set_of trace △ x) trace_sum ∙ sym (△_assoc (set_of trace) (set_of trace_now) (set_of trace_led))
          ∙ ap (λ (x : Columns ℕ). x △ set_of trace_led) traced.trace_part ∙ sym traces_toggled;
    }

pub traced_in : (rows traces : List (List Bool)) (row trace new trace_new : List Bool) → IsTraced rows traces row trace new trace_new → InSpan (sets_of rows) (set_of row △ set_of new)
traced_in rows traces row trace new trace_new traced = (traced.picks, sym traced.row_part)

-- ---- the members of a span and a sum

-- what one row came to: it was reduced by `base`, by `more` and by the rests, and with the rests their traces were added to its trace
pub record IsStep (base more : List (Columns ℕ)) (rests traces : List (List Bool)) (row rest trace : List Bool) : Type 0 where
  pub picks : List Bool
  pub row_part : InSpan (more ++ base) (set_of row △ set_of rest △ difference picks (sets_of rests))
  pub trace_part : set_of row △ set_of trace ≡ difference picks (sets_of traces)
  pub clear_base : HoldsNoLead base (set_of rest)
  pub clear_more : HoldsNoLead more (set_of rest)

pub step : (base more : List (Columns ℕ)) (rests traces : List (List Bool)) (row first second rest trace : List Bool)
    → HoldNoLeads base more → HoldNoLeads base (sets_of rests) → HoldNoLeads more (sets_of rests)
    → InSpan base (set_of row △ set_of first) → HoldsNoLead base (set_of first) → InSpan more (set_of first △ set_of second) → HoldsNoLead more (set_of second)
    → IsTraced rests traces second row rest trace → IsStep base more rests traces row rest trace
step base more rests traces row first second rest trace all over_base over_more by_base clear_first by_more clear_second traced =
    let by_rests : InSpan (sets_of rests) (set_of second △ set_of rest) = traced_in rests traces second row rest trace traced in
    let both : InSpan (more ++ base) (set_of row △ set_of second) =
    in_as (more ++ base) (over (set_of row) (set_of first) (set_of second))
    (in_sum (more ++ base) (set_of row △ set_of first) (set_of first △ set_of second)
    (in_front more base (set_of row △ set_of first) by_base) (in_behind more base (set_of first △ set_of second) by_more)) in
    let gone : set_of row △ set_of rest △ difference traced.picks (sets_of rests) ≡ set_of row △ set_of second =
    ap (λ (x : Columns ℕ). set_of row △ set_of rest △ x) (sym traced.row_part)
    ∙ △_swap (set_of row) (set_of rest) (set_of second) (set_of rest)
    ∙ ap (λ (x : Columns ℕ). (set_of row △ set_of second) △ x) (△_self (set_of rest)) ∙ △-empty (set_of row △ set_of second) in
    record {
      picks = traced.picks;
      row_part = in_as (more ++ base) (sym gone) both;
      trace_part = traced.trace_part;
      clear_base = no_lead_left base (sets_of rests) (set_of second) (set_of rest) over_base (no_lead_left base more (set_of first) (set_of second) all clear_first by_more) by_rests;
      clear_more = no_lead_left more (sets_of rests) (set_of second) (set_of rest) over_more clear_second by_rests;
    }

-- what is known after i rows of the span
pub record IsMeeting (columns : ℕ) (base more : List (Columns ℕ)) (a : List (List Bool)) (i : ℕ) (rests traces meet : List (List Bool)) : Type 0 where
  pub many : length traces ≡ length rests
  pub wide : (k : ℕ) → k < length traces → length (get_or traces k []) ≡ columns
  pub own : HaveOwnLeads (sets_of rests)
  pub over_base : HoldNoLeads base (sets_of rests)
  pub over_more : HoldNoLeads more (sets_of rests)
  pub met : IsMet (more ++ base) (sets_of (take i a)) (sets_of rests) (sets_of traces) (sets_of meet)

pub meeting_begins : (columns : ℕ) (base more : List (Columns ℕ)) (a : List (List Bool)) → IsMeeting columns base more a 0 [] [] []
meeting_begins columns base more a = record {
  many = refl;
  wide = λ k h. absurd (omega arith);
  own = own_none;
  over_base = no_leads_none base;
  over_more = no_leads_none more;
  met = met_none (more ++ base);
}

-- the rows taken, with one more
taken_next : (b : List (List Bool)) (i : ℕ) (row : List Bool) → i < length b → row ≡ get_or b i row → sets_of (take (i + 1) b) ≡ sets_of (take i b) ++ set_of row ∷ []
taken_next b i row h is = ap sets_of (take_more b i row h ∙ ap (λ (r : List Bool). take i b ++ r ∷ []) (sym is)) ∙ sets_push (take i b) row

pub meeting_zero : (columns : ℕ) (base more : List (Columns ℕ)) (a : List (List Bool)) (i : ℕ) (rests traces meet new : List (List Bool)) (row rest trace : List Bool)
    → IsMeeting columns base more a i rests traces meet → i < length a → row ≡ get_or a i row → IsStep base more rests traces row rest trace → set_of rest ≡ empty
    → SameSpan (sets_of new) (set_of trace ∷ sets_of meet) → IsMeeting columns base more a (i + 1) rests traces new
meeting_zero columns base more a i rests traces meet new row rest trace meeting h is came none grown = record {
  many = meeting.many;
  wide = meeting.wide;
  own = meeting.own;
  over_base = meeting.over_base;
  over_more = meeting.over_more;
  met = rw (taken_next a i row h is)
      (met_zero (more ++ base) (sets_of (take i a)) (sets_of rests) (sets_of traces) (sets_of meet) (sets_of new) (set_of row) (set_of rest) (set_of trace) came.picks meeting.met came.row_part came.trace_part none grown);
}

pub meeting_rest : (columns : ℕ) (base more : List (Columns ℕ)) (a : List (List Bool)) (i : ℕ) (rests traces meet : List (List Bool)) (row rest trace : List Bool)
    → IsMeeting columns base more a i rests traces meet → i < length a → row ≡ get_or a i row → IsStep base more rests traces row rest trace
    → HaveOwnLeads (sets_of (rests ++ rest ∷ [])) → length trace ≡ columns
    → IsMeeting columns base more a (i + 1) (rests ++ rest ∷ []) (traces ++ trace ∷ []) meet
meeting_rest columns base more a i rests traces meet row rest trace meeting h is came own wide = record {
  many = length-append traces (trace ∷ []) ∙ ap (λ n. n + 1) meeting.many ∙ sym (length-append rests (rest ∷ []));
  wide = λ k less. elim (cases_lt k (length traces)) [
    | inl old ↦ ap length (get_or_append_left traces (trace ∷ []) [] k old) ∙ meeting.wide k old
    | inr now ↦
        let z : k - length traces ≡ 0 = omega (arith, length-append traces (trace ∷ [])) in
        ap length (get_or-append_right traces (trace ∷ []) (length traces) k [] refl now ∙ ap (λ j. get_or (trace ∷ []) j []) z) ∙ wide
  ];
  own = own;
  over_base = rw (sets_push rests rest) (no_leads_push base (sets_of rests) (set_of rest) meeting.over_base came.clear_base);
  over_more = rw (sets_push rests rest) (no_leads_push more (sets_of rests) (set_of rest) meeting.over_more came.clear_more);
  met = rw (taken_next a i row h is, sets_push rests rest, sets_push traces trace)
      (met_rest (more ++ base) (sets_of (take i a)) (sets_of rests) (sets_of traces) (sets_of meet) (set_of row) (set_of rest) (set_of trace) came.picks meeting.met came.row_part came.trace_part);
}

-- no member of the sum is in the span of the rests
rests_apart : (base more rests : List (Columns ℕ)) → HaveOwnLeads base → HaveOwnLeads more → HoldNoLeads base more → HoldNoLeads base rests → HoldNoLeads more rests
    → (v : Columns ℕ) → InSpan (more ++ base) v → InSpan rests v → v ≡ empty
rests_apart base more rests own_base own_more all over_base over_more v in_sum_of in_rests =
    no_lead_empty more v own_more (in_other base more v own_base all in_sum_of (over_base v in_rests)) (over_more v in_rests)

pub meeting_ends : (columns : ℕ) (base more : List (Columns ℕ)) (a : List (List Bool)) (i : ℕ) (rests traces meet : List (List Bool)) → IsMeeting columns base more a i rests traces meet → length a ≤ i
    → HaveOwnLeads base → HaveOwnLeads more → HoldNoLeads base more → IsMeet (sets_of meet) (sets_of a) (more ++ base)
meeting_ends columns base more a i rests traces meet meeting past own_base own_more all v =
    let whole : take i a ≡ a = take_all i a past in
    let P : List (List Bool) → Type 0 = λ (x : List (List Bool)). IsMeet (sets_of meet) (more ++ base) (sets_of x) in
    let met : IsMeet (sets_of meet) (more ++ base) (sets_of a) =
    subst P whole (met_all (more ++ base) (sets_of (take i a)) (sets_of rests) (sets_of traces) (sets_of meet) (own_independent (sets_of rests) meeting.own)
    (rests_apart base more (sets_of rests) own_base own_more all meeting.over_base meeting.over_more) meeting.met) in
    (λ m. (((met v).0 m).1, ((met v).0 m).0), λ m. (met v).1 (m.1, m.0))

-- the meet with a sum, by other rows that span it
pub meet_as : (meet a sum other : List (Columns ℕ)) → SameSpan sum other → IsMeet meet a sum → IsMeet meet a other
meet_as meet a sum other same met v = (λ m. (((met v).0 m).0, (same v).0 ((met v).0 m).1), λ m. (met v).1 (m.0, (same v).1 m.1))

pub meet_none : (sum : List (Columns ℕ)) → IsMeet [] [] sum
meet_none sum v = (λ m. (m, spans_none sum v m), λ m. m.0)

pub meet_if_none : {E : Type 0} (made : Result Basis E) (columns : ℕ) (a : List (List Bool)) (sum : List (Columns ℕ)) → length a ≡ 0
    → IfOk made (λ (span : Basis). span ≡ record { columns = columns; rows = [] }) → IfOk made (λ (meet : Basis). IsMeet (row_sets meet) (sets_of a) sum)
meet_if_none (Ok span) columns [] sum none is =
    let P : Basis → Type 0 = λ (b : Basis). IsMeet (row_sets b) [] sum in
    subst P (sym is) (meet_none sum)
meet_if_none (Ok span) columns (row ∷ rows) sum none is = absurd (omega arith)
meet_if_none (Err e) columns a sum none is = tt

pub meet_if_apart : {E : Type 0} (made : Result Basis E) (columns : ℕ) (a b : List (Columns ℕ)) → ((v : Columns ℕ) → InSpan a v → InSpan b v → v ≡ empty)
    → IfOk made (λ (span : Basis). span ≡ record { columns = columns; rows = [] }) → IfOk made (λ (meet : Basis). IsMeet (row_sets meet) a b)
meet_if_apart (Ok span) columns a b apart is =
    let P : Basis → Type 0 = λ (x : Basis). IsMeet (row_sets x) a b in
    let none : IsMeet [] a b = λ v. (λ m. (spans_none a v m, spans_none b v m), λ m. in_as [] (sym (apart v m.0 m.1)) (empty_in [])) in
    subst P (sym is) none
meet_if_apart (Err e) columns a b apart is = tt

pub meet_if_as : {E : Type 0} (made : Result Basis E) (a sum other : List (Columns ℕ)) → SameSpan sum other
    → IfOk made (λ (meet : Basis). IsMeet (row_sets meet) a sum) → IfOk made (λ (meet : Basis). IsMeet (row_sets meet) a other)
meet_if_as (Ok span) a sum other same met = meet_as (row_sets span) a sum other same met
meet_if_as (Err e) a sum other same met = tt

-- ---- the rows of a sum, reduced

-- the rows taken, with one more
pub reduced_next : (base old new : List (Columns ℕ)) (rows : List (List Bool)) (i : ℕ) (row : List Bool) (rest : Columns ℕ) → i < length rows → row ≡ get_or rows i row
    → SameSpan (old ++ base) (sets_of (take i rows) ++ base) → SameSpan new (rest ∷ old) → InSpan base (set_of row △ rest) → SameSpan (new ++ base) (sets_of (take (i + 1) rows) ++ base)
reduced_next base old new rows i row rest h is before grown same v =
    rw (taken_next rows i row h is) (reduced_more base (sets_of (take i rows)) old new (set_of row) rest before grown same v)

pub reduced_ends : (base span : List (Columns ℕ)) (rows : List (List Bool)) (i : ℕ) → length rows ≤ i → SameSpan (span ++ base) (sets_of (take i rows) ++ base) → SameSpan (span ++ base) (sets_of rows ++ base)
reduced_ends base span rows i past same =
    let P : List (List Bool) → Type 0 = λ (x : List (List Bool)). SameSpan (span ++ base) (sets_of x ++ base) in
    subst P (take_all i rows past) same
