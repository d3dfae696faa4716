use Rattle.std.proofs.Common.{◌∷◌, ap, ◌∙◌}
use Rattle.span_model.specs.Columns.{set_of, ◌△◌}
use Rattle.span_model.specs.Span.{InSpan}
use Rattle.gf2_span.specs.Basis.{Basis, row_sets}
use Rattle.gf2_span.proofs.Reducing.{echelon_own}
use Rattle.gf2_span.proofs.Meeting.{no_leads_none, no_leads_cons, no_leads_as, reduced_next, reduced_ends}
use Rattle.gf2_span.proofs.span.Span.reduced_span.Goals as goal

pub loop-row-init : goal.loop-row-init
loop-row-init c = record {
  columns = ap (λ (b : Basis). b.columns) c.in_ok-span.ensures ∙ ap (λ (b : Basis). b.columns) c.self.view_is;
  clear = rw c.in_ok-span.ensures (no_leads_none (row_sets c.args.self.now));
  same = rw c.in_ok-span.ensures (λ v. (λ m. m, λ m. m));
}

pub loop-row-preserved : goal.loop-row-preserved
loop-row-preserved c =
    let by : InSpan (row_sets c.args.self.now) (set_of c.row-item.result △ set_of c.reduce.new.row) = rw (← c.in_ok-rest.ensures) c.reduce.ensures.same in
    record {
      columns = c.in_ok-_fresh.ensures.columns ∙ c.loop-row.invariant.columns;
      clear = no_leads_as (row_sets c.args.self.now) (row_sets c.insert.new.self) (set_of c.reduce.new.row ∷ row_sets c.loop-row.span) (λ v m. (c.in_ok-_fresh.ensures.span v).0 m)
          (no_leads_cons (row_sets c.args.self.now) (row_sets c.loop-row.span) (set_of c.reduce.new.row) c.loop-row.invariant.clear c.reduce.ensures.clear);
      same = reduced_next (row_sets c.args.self.now) (row_sets c.loop-row.span) (row_sets c.insert.new.self) c.args.rows.now c.loop-row.row-index c.row-item.result (set_of c.reduce.new.row)
          c.loop-row-test.true c.row-item.is c.loop-row.invariant.same c.in_ok-_fresh.ensures.span by;
    }

pub returns-clause-clear : goal.returns-clause-clear
returns-clause-clear c = c.loop-row.invariant.clear

pub returns-clause-same : goal.returns-clause-same
returns-clause-same c =
    reduced_ends (row_sets c.args.self.now) (row_sets c.loop-row.span) c.args.rows.now c.loop-row.row-index c.loop-row-test.false c.loop-row.invariant.same

pub returns-clause-own : goal.returns-clause-own
returns-clause-own c = rw (← c.self.view_is) (echelon_own c.self.inside.columns c.self.inside.rows.items c.self.inside.leads.items c.self.invariant)
