use Rattle.span_model.specs.Columns.{set_of, sets_of}
use Rattle.gf2_span.proofs.Leads.{left_zero}
use Rattle.gf2_span.proofs.Reducing.{echelon_own}
use Rattle.gf2_span.proofs.Meeting.{traced_in}
use Rattle.gf2_span.proofs.span.Span.reduce_traced.Goals as goal

pub returns-clause-zero : goal.returns-clause-zero
returns-clause-zero c =
    rw (← c.self.view_is) (left_zero (sets_of c.self.inside.rows.items) (set_of c.args.row.now) (set_of c.reduce_traced.new.row)
    (echelon_own c.self.inside.columns c.self.inside.rows.items c.self.inside.leads.items c.self.invariant)
    (traced_in c.self.inside.rows.items c.args.traces.now c.args.row.now c.args.trace.now c.reduce_traced.new.row c.reduce_traced.new.trace c.reduce_traced.ensures.same) c.reduce_traced.ensures.clear)
