use Rattle.std.proofs.Common.{◌≡◌, ◌<◌, ◌++◌, ℕ, [], get_or}
use Rattle.span_model.specs.Columns.{Columns, set_of}
use Rattle.span_model.specs.Span.{InSpan}
use Rattle.gf2_span.specs.Basis.{row_sets}
use Rattle.gf2_span.specs.Rows.{HoldsNoLead}
use Rattle.tightprove.proofs.apart.reduced.Given as goal

abbrev pub invariant-loop-k : goal.invariant-loop-k
invariant-loop-k l = record {
  columns : l.rest.columns ≡ l.columns;
  clear : (v : Columns ℕ) → InSpan (row_sets l.rest) v → HoldsNoLead (row_sets l.span) v;
  members : (j : ℕ) → j < l.k → InSpan (row_sets l.rest ++ row_sets l.span) (set_of (get_or l.a.rows j []));
}
