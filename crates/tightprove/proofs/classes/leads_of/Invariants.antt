use Rattle.std.proofs.Common.{◌<◌, ℕ, [], get_or, All}
use Rattle.std.specs.List.{Contains}
use Rattle.span_model.specs.Columns.{set_of}
use Rattle.gf2_span.specs.Rows.{IsLast}
use Rattle.tightprove.proofs.classes.leads_of.Given as goal

abbrev pub invariant-loop-k : goal.invariant-loop-k
invariant-loop-k l = record {
  listed : (j c : ℕ) → j < l.k → IsLast (set_of (get_or l.span.rows j [])) c → Contains l.leads.items c;
  within : All (λ c. c < l.span.columns) l.leads.items;
}
