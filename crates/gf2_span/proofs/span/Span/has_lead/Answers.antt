use Rattle.std.proofs.Common.{◌<◌, length, arith}
use Rattle.span_model.specs.Columns.{sets_of}
use Rattle.gf2_span.proofs.Leads.{outside}
use Rattle.gf2_span.proofs.Reducing.{IsPlace, echelon_own, led_member, leads_none, free_place}
use Rattle.gf2_span.proofs.span.Span.has_lead.Goals as goal

pub returns-in-Ok : goal.returns-in-Ok
returns-in-Ok c =
    let within : c.in-Ok.field-0 < length c.self.inside.leads.items = omega (arith, c.in-Ok.ensures.0, c.len.ensures, c.self.inside.leads.ok) in
    rw (← c.self.view_is) (led_member c.self.inside.columns c.self.inside.rows.items c.self.inside.leads.items c.in-Ok.field-0 c.args.c c.self.invariant within c.in-Ok.ensures.1)

pub returns-in-Err : goal.returns-in-Err
returns-in-Err c =
    let place : IsPlace c.self.inside.leads.items c.in-Err.field-0 c.args.c =
    record { within = omega (arith, c.in-Err.ensures.0, c.len.ensures, c.self.inside.leads.ok); before = c.in-Err.ensures.1; past = c.in-Err.ensures.2 } in
    rw (← c.self.view_is) (λ v m last. outside (sets_of c.self.inside.rows.items) v c.args.c
    (echelon_own c.self.inside.columns c.self.inside.rows.items c.self.inside.leads.items c.self.invariant) last
    (leads_none c.self.inside.columns c.self.inside.rows.items c.self.inside.leads.items c.args.c c.self.invariant (free_place c.self.inside.leads.items c.in-Err.field-0 c.args.c place)) m)
