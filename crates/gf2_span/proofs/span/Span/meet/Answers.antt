use Rattle.span_model.specs.Columns.{sets_of}
use Rattle.gf2_span.specs.Basis.{row_sets}
use Rattle.std.proofs.lemmas.Bool.{OnFalse_at}
use Rattle.gf2_span.proofs.Reducing.{apart_empty}
use Rattle.gf2_span.proofs.Meeting.{meet_if_apart}
use Rattle.gf2_span.proofs.span.Span.meet.Goals as goal

pub returns-then-not-any_leads-clause-members : goal.returns-then-not-any_leads-clause-members
returns-then-not-any_leads-clause-members c =
    rw (← c.a.view_is) (meet_if_apart c.new.result c.a.inside.columns (sets_of c.a.inside.rows.items) (row_sets c.args.b.now)
    (apart_empty c.a.inside.columns c.a.inside.rows.items c.a.inside.leads.items (row_sets c.args.b.now) c.a.invariant (OnFalse_at c.if-not-any_leads.true c.any_leads.ensures)) c.new.ensures)
