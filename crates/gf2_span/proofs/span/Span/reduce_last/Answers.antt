use Rattle.span_model.specs.Columns.{set_of, sets_of}
use Rattle.gf2_span.proofs.Leads.{no_member_led}
use Rattle.gf2_span.proofs.Reducing.{echelon_own}
use Rattle.gf2_span.proofs.span.Span.reduce_last.Goals as goal

pub returns-clause-last : goal.returns-clause-last
returns-clause-last c =
    rw (← c.self.view_is) (no_member_led (sets_of c.self.inside.rows.items) (set_of c.reduce_lead.new.row) c.reduce_lead.result
    (echelon_own c.self.inside.columns c.self.inside.rows.items c.self.inside.leads.items c.self.invariant) c.reduce_lead.ensures.rest)
