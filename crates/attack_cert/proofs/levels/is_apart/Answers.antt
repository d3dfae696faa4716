use Rattle.std.proofs.Common.{ℕ, Option, IfSome, subst}
use Rattle.gf2_span.specs.Basis.{row_sets}
use Rattle.attack_cert.specs.Levelled.{IsOnlyLead}
use Rattle.attack_cert.proofs.Sums.{if_none}
use Rattle.attack_cert.proofs.Leads.{apart_right, apart_left}
use Rattle.attack_cert.proofs.levels.is_apart.Goals as goal

pub returns-in-Some : goal.returns-in-Some
returns-in-Some c rows left own last outside =
    if_none c.has_lead.result _ _ _ c.has_lead.ensures
    (apart_right (row_sets c.args.span.now) rows left c.in-Some.c c.args.lead
    (subst (λ (o : Option ℕ). IfSome o (IsOnlyLead rows)) c.in-Some.is own) last outside c.if-c-lead.true)

pub returns-in-Some-2 : goal.returns-in-Some-2
returns-in-Some-2 c rows left own last outside =
    if_none c.has_lead-in-Some-2.result _ _ _ c.has_lead-in-Some-2.ensures
    (apart_left (row_sets c.args.span.now) rows left c.in-Some-2.c c.args.lead
    (subst (λ (o : Option ℕ). IfSome o (IsOnlyLead rows)) c.in-Some-2.is own) last outside c.if-lead-c.true)
