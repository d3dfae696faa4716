use Rattle.std.proofs.Common.{◌<◌, ℕ, [], get_or}
use Rattle.span_model.specs.Columns.{set_of}
use Rattle.gf2_span.specs.Basis.{row_sets}
use Rattle.gf2_span.specs.Rows.{IsLast, LeadsNoMember}
use Rattle.tightprove.proofs.apart.share_lead.Given as goal

abbrev pub invariant-loop-k : goal.invariant-loop-k
invariant-loop-k l = (j c : ℕ) → j < l.k → IsLast (set_of (get_or l.a.rows j [])) c → LeadsNoMember (row_sets l.b) c
