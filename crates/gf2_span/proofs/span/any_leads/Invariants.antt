use Rattle.std.proofs.Common.{◌<◌, ℕ}
use Rattle.gf2_span.specs.Basis.{row_sets}
use Rattle.gf2_span.specs.Rows.{LeadsNoMember}
use Rattle.gf2_span.specs.Echelon.{lead_at}
use Rattle.gf2_span.proofs.span.any_leads.Given as goal

abbrev pub invariant-loop-k : goal.invariant-loop-k
invariant-loop-k l = (j : ℕ) → j < l.k → LeadsNoMember (row_sets l.span) (lead_at l.leads.items j).column
