use Rattle.std.proofs.Common.{ℕ, List, Bool, [], ◌∷◌, ◌++◌, ◌≡◌, ◌<◌, ◌≤◌, length, get_or, ap, sym, subst, ◌∙◌}
use Rattle.span_model.specs.Columns.{set_of, sets_of, ◌△◌}
use Rattle.span_model.specs.Span.{InSpan}
use Rattle.gf2_span.specs.Rows.{HaveOwnLeads}
use Rattle.gf2_span.specs.Basis.{Basis, row_sets}
use Rattle.gf2_span.specs.Echelon.{IsTraced}
use Rattle.gf2_span.proofs.Reducing.{echelon_own, item_wide}
use Rattle.gf2_span.proofs.Meeting.{IsStep, step, meeting_begins, meeting_zero, meeting_rest, meeting_ends}
use Rattle.gf2_span.proofs.span.Span.meet_over.Goals as goal
use Rattle.gf2_span.proofs.span.Span.meet_over.Goals.{in-Some+in_ok-keep-in-Some+in_ok-push-in-Some, in-None+in_ok-_fresh-in-None}

pub loop-row-init : goal.loop-row-init
loop-row-init c = record {
  columns = ap (λ (b : Basis). b.columns) c.in_ok-meet.ensures ∙ ap (λ (b : Basis). b.columns) c.base.view_is;
  rest_columns = ap (λ (b : Basis). b.columns) c.in_ok-rests.ensures ∙ ap (λ (b : Basis). b.columns) c.more.view_is ∙ c.requires.more_columns;
  meeting = rw (c.in_ok-rests.ensures, c.new-traces.ensures.items, c.in_ok-meet.ensures)
      (meeting_begins c.args.base.now.columns (row_sets c.args.base.now) (row_sets c.args.more.now) c.args.a.now.rows);
}

pub reduce-requires : goal.reduce-requires
reduce-requires c =
    let within : c.loop-row.row-index < length c.a.inside.rows.items = rw (← c.deref-row-items.ensures.value) c.loop-row-test.true in
    let is : c.row-item.result ≡ get_or c.a.inside.rows.items c.loop-row.row-index c.row-item.result = rw (← c.deref-row-items.ensures.value) c.row-item.is in
    let wide : length c.row-item.result ≡ c.a.inside.columns = item_wide c.a.inside.columns c.a.inside.rows.items c.a.inside.leads.items c.loop-row.row-index c.row-item.result c.a.invariant within is in
    let long : length c.row-item.result ≡ c.args.base.now.columns = wide ∙ ap (λ (b : Basis). b.columns) c.a.view_is ∙ c.requires.columns in
    ap length c.in_ok-rest.ensures ∙ long

pub reduce-requires-in-loop-row : goal.reduce-requires-in-loop-row
reduce-requires-in-loop-row c =
    let within : c.loop-row.row-index < length c.a.inside.rows.items = rw (← c.deref-row-items.ensures.value) c.loop-row-test.true in
    let is : c.row-item.result ≡ get_or c.a.inside.rows.items c.loop-row.row-index c.row-item.result = rw (← c.deref-row-items.ensures.value) c.row-item.is in
    let wide : length c.row-item.result ≡ c.a.inside.columns = item_wide c.a.inside.columns c.a.inside.rows.items c.a.inside.leads.items c.loop-row.row-index c.row-item.result c.a.invariant within is in
    let long : length c.row-item.result ≡ c.args.base.now.columns = wide ∙ ap (λ (b : Basis). b.columns) c.a.view_is ∙ c.requires.columns in
    c.reduce.ensures.columns ∙ ap length c.in_ok-rest.ensures ∙ long ∙ sym c.requires.more_columns

pub reduce_traced-requires-clause-columns : goal.reduce_traced-requires-clause-columns
reduce_traced-requires-clause-columns c =
    let within : c.loop-row.row-index < length c.a.inside.rows.items = rw (← c.deref-row-items.ensures.value) c.loop-row-test.true in
    let is : c.row-item.result ≡ get_or c.a.inside.rows.items c.loop-row.row-index c.row-item.result = rw (← c.deref-row-items.ensures.value) c.row-item.is in
    let wide : length c.row-item.result ≡ c.a.inside.columns = item_wide c.a.inside.columns c.a.inside.rows.items c.a.inside.leads.items c.loop-row.row-index c.row-item.result c.a.invariant within is in
    let long : length c.row-item.result ≡ c.args.base.now.columns = wide ∙ ap (λ (b : Basis). b.columns) c.a.view_is ∙ c.requires.columns in
    c.reduce-in-loop-row.ensures.columns ∙ c.reduce.ensures.columns ∙ ap length c.in_ok-rest.ensures ∙ long ∙ sym c.loop-row.invariant.rest_columns

pub reduce_traced-requires-clause-trace_columns : goal.reduce_traced-requires-clause-trace_columns
reduce_traced-requires-clause-trace_columns c =
    let within : c.loop-row.row-index < length c.a.inside.rows.items = rw (← c.deref-row-items.ensures.value) c.loop-row-test.true in
    let is : c.row-item.result ≡ get_or c.a.inside.rows.items c.loop-row.row-index c.row-item.result = rw (← c.deref-row-items.ensures.value) c.row-item.is in
    let wide : length c.row-item.result ≡ c.a.inside.columns = item_wide c.a.inside.columns c.a.inside.rows.items c.a.inside.leads.items c.loop-row.row-index c.row-item.result c.a.invariant within is in
    let long : length c.row-item.result ≡ c.args.base.now.columns = wide ∙ ap (λ (b : Basis). b.columns) c.a.view_is ∙ c.requires.columns in
    let P : List (List Bool) → Type 0 = λ x. (k : ℕ) → k < length x
    → length (get_or x k []) ≡ length c.in_ok-trace.trace in
    subst P (sym c.as_slice.ensures.value) (λ k h. c.loop-row.invariant.meeting.wide k h
    ∙ sym (ap length c.in_ok-trace.ensures ∙ long))

pub keep-requires-clause-wide : goal.keep-requires-clause-wide
keep-requires-clause-wide c =
    let within : c.loop-row.row-index < length c.a.inside.rows.items = rw (← c.deref-row-items.ensures.value) c.loop-row-test.true in
    let is : c.row-item.result ≡ get_or c.a.inside.rows.items c.loop-row.row-index c.row-item.result = rw (← c.deref-row-items.ensures.value) c.row-item.is in
    let wide : length c.row-item.result ≡ c.a.inside.columns = item_wide c.a.inside.columns c.a.inside.rows.items c.a.inside.leads.items c.loop-row.row-index c.row-item.result c.a.invariant within is in
    let long : length c.row-item.result ≡ c.args.base.now.columns = wide ∙ ap (λ (b : Basis). b.columns) c.a.view_is ∙ c.requires.columns in
    c.reduce_traced.ensures.columns ∙ c.reduce-in-loop-row.ensures.columns ∙ c.reduce.ensures.columns ∙ ap length c.in_ok-rest.ensures ∙ long ∙ sym c.loop-row.invariant.rest_columns

pub insert-requires : goal.insert-requires
insert-requires c =
    let within : c.loop-row.row-index < length c.a.inside.rows.items = rw (← c.deref-row-items.ensures.value) c.loop-row-test.true in
    let is : c.row-item.result ≡ get_or c.a.inside.rows.items c.loop-row.row-index c.row-item.result = rw (← c.deref-row-items.ensures.value) c.row-item.is in
    let wide : length c.row-item.result ≡ c.a.inside.columns = item_wide c.a.inside.columns c.a.inside.rows.items c.a.inside.leads.items c.loop-row.row-index c.row-item.result c.a.invariant within is in
    let long : length c.row-item.result ≡ c.args.base.now.columns = wide ∙ ap (λ (b : Basis). b.columns) c.a.view_is ∙ c.requires.columns in
    c.reduce_traced.ensures.trace_columns ∙ ap length c.in_ok-trace.ensures ∙ long ∙ sym c.loop-row.invariant.columns

pub loop-row-preserved : goal.loop-row-preserved
loop-row-preserved c =
    let inside_within : c.loop-row.row-index < length c.a.inside.rows.items = rw (← c.deref-row-items.ensures.value) c.loop-row-test.true in
    let inside_is : c.row-item.result ≡ get_or c.a.inside.rows.items c.loop-row.row-index c.row-item.result = rw (← c.deref-row-items.ensures.value) c.row-item.is in
    let wide : length c.row-item.result ≡ c.a.inside.columns = item_wide c.a.inside.columns c.a.inside.rows.items c.a.inside.leads.items c.loop-row.row-index c.row-item.result c.a.invariant inside_within inside_is in
    let long : length c.row-item.result ≡ c.args.base.now.columns = wide ∙ ap (λ (b : Basis). b.columns) c.a.view_is ∙ c.requires.columns in
    let items : c.deref-row-items.result.now ≡ c.args.a.now.rows = c.deref-row-items.ensures.value ∙ ap (λ (b : Basis). b.rows) c.a.view_is in
    let within : c.loop-row.row-index < length c.args.a.now.rows = rw (← items) c.loop-row-test.true in
    let is : c.row-item.result ≡ get_or c.args.a.now.rows c.loop-row.row-index c.row-item.result = rw (← items) c.row-item.is in
    let by_base : InSpan (row_sets c.args.base.now) (set_of c.row-item.result △ set_of c.reduce.new.row) = rw (← c.in_ok-rest.ensures) c.reduce.ensures.same in
    let traced : IsTraced c.loop-row.rests.rows c.loop-row.traces.items c.reduce-in-loop-row.new.row c.row-item.result c.reduce_traced.new.row c.reduce_traced.new.trace =
    record {
      picks = c.reduce_traced.ensures.same.0;
      row_part = c.reduce_traced.ensures.same.1;
      trace_part = rw
          (← c.in_ok-trace.ensures, ← c.as_slice.ensures.value) c.reduce_traced.ensures.same.2;
    } in
    let came : IsStep (row_sets c.args.base.now) (row_sets c.args.more.now) c.loop-row.rests.rows c.loop-row.traces.items c.row-item.result c.reduce_traced.new.row c.reduce_traced.new.trace =
    step (row_sets c.args.base.now) (row_sets c.args.more.now) c.loop-row.rests.rows c.loop-row.traces.items c.row-item.result c.reduce.new.row c.reduce-in-loop-row.new.row
    c.reduce_traced.new.row c.reduce_traced.new.trace c.requires.clear c.loop-row.invariant.meeting.over_base c.loop-row.invariant.meeting.over_more
    by_base c.reduce.ensures.clear c.reduce-in-loop-row.ensures.same c.reduce-in-loop-row.ensures.clear traced in
    elim c.match-last.branch [
      | in-Some+in_ok-keep-in-Some+in_ok-push-in-Some w ↦
          let trace_long : length c.reduce_traced.new.trace ≡ c.args.base.now.columns = c.reduce_traced.ensures.trace_columns ∙ ap length c.in_ok-trace.ensures ∙ long in
          let P : List (List Bool) → Type 0 = λ (x : List (List Bool)). HaveOwnLeads (sets_of x) in
          let own : HaveOwnLeads (sets_of (c.loop-row.rests.rows ++ c.reduce_traced.new.row ∷ [])) = subst P w.in_ok-keep-in-Some.ensures.ok w.in_ok-keep-in-Some.ensures.own in
          record {
            columns = rw w.meet-is c.loop-row.invariant.columns;
            rest_columns = rw w.rests-is (w.in_ok-keep-in-Some.ensures.columns ∙ c.loop-row.invariant.rest_columns);
            meeting = rw (w.rests-is, w.traces-is, w.meet-is, w.in_ok-keep-in-Some.ensures.ok, w.in_ok-push-in-Some.ensures.items)
                (meeting_rest c.args.base.now.columns (row_sets c.args.base.now) (row_sets c.args.more.now) c.args.a.now.rows c.loop-row.row-index c.loop-row.rests.rows c.loop-row.traces.items c.loop-row.meet.rows
                c.row-item.result c.reduce_traced.new.row c.reduce_traced.new.trace c.loop-row.invariant.meeting within is came own trace_long);
          }
      | in-None+in_ok-_fresh-in-None w ↦
          record {
            columns = rw w.meet-is (w.in_ok-_fresh-in-None.ensures.columns ∙ c.loop-row.invariant.columns);
            rest_columns = rw w.rests-is c.loop-row.invariant.rest_columns;
            meeting = rw (w.rests-is, w.traces-is, w.meet-is)
                (meeting_zero c.args.base.now.columns (row_sets c.args.base.now) (row_sets c.args.more.now) c.args.a.now.rows c.loop-row.row-index c.loop-row.rests.rows c.loop-row.traces.items c.loop-row.meet.rows w.insert.new.self.rows
                c.row-item.result c.reduce_traced.new.row c.reduce_traced.new.trace c.loop-row.invariant.meeting within is came w.in-None.ensures w.in_ok-_fresh-in-None.ensures.span);
          }
    ]

pub returns-clause-members : goal.returns-clause-members
returns-clause-members c =
    let items : c.deref-row-items.result.now ≡ c.args.a.now.rows = c.deref-row-items.ensures.value ∙ ap (λ (b : Basis). b.rows) c.a.view_is in
    let past : length c.args.a.now.rows ≤ c.loop-row.row-index = rw (← items) c.loop-row-test.false in
    let own_base : HaveOwnLeads (row_sets c.args.base.now) =
    rw (← c.base.view_is) (echelon_own c.base.inside.columns c.base.inside.rows.items c.base.inside.leads.items c.base.invariant) in
    let own_more : HaveOwnLeads (row_sets c.args.more.now) =
    rw (← c.more.view_is) (echelon_own c.more.inside.columns c.more.inside.rows.items c.more.inside.leads.items c.more.invariant) in
    meeting_ends c.args.base.now.columns (row_sets c.args.base.now) (row_sets c.args.more.now) c.args.a.now.rows c.loop-row.row-index c.loop-row.rests.rows c.loop-row.traces.items c.loop-row.meet.rows
    c.loop-row.invariant.meeting past own_base own_more c.requires.clear
