use Rattle.std.proofs.Common.{◌<◌, ◌≤◌, ℕ, [], get_or}
use Rattle.span_model.specs.Columns.{set_of}
use Rattle.gf2_span.specs.Rows.{IsLast}
use Rattle.tightprove.proofs.classes.least_lead.Given as goal

abbrev pub invariant-loop-k : goal.invariant-loop-k
invariant-loop-k l = (j c : ℕ) → j < l.k → IsLast (set_of (get_or l.span.rows j [])) c → l.low ≤ c
