use Rattle.span_model.specs.Columns.{set_of, sets_of, ◌△◌}
use Rattle.span_model.specs.Span.{InSpan}
use Rattle.gf2_span.proofs.Leads.{answered}
use Rattle.gf2_span.proofs.Reducing.{echelon_own}
use Rattle.gf2_span.proofs.span.Span.contains.Goals as goal

pub returns-clause-answer : goal.returns-clause-answer
returns-clause-answer c =
    let same : InSpan (sets_of c.self.inside.rows.items) (set_of c.args.row.now △ set_of c.reduce_lead.new.row) = rw (← c.overwrite.ensures) c.reduce_lead.ensures.same in
    rw (← c.self.view_is) (answered (sets_of c.self.inside.rows.items) (set_of c.args.row.now) (set_of c.reduce_lead.new.row) c.reduce_lead.result c.is_none.result
    (echelon_own c.self.inside.columns c.self.inside.rows.items c.self.inside.leads.items c.self.invariant) same c.reduce_lead.ensures.rest c.is_none.ensures)
