use Rattle.gf2_span.proofs.Leads.{leads_kept}
use Rattle.gf2_span.proofs.span.leads_are_kept.Goals as goal

pub returns : goal.returns
returns c = leads_kept
