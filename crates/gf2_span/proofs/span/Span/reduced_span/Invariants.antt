use Rattle.std.proofs.Common.{◌≡◌, ◌++◌, take}
use Rattle.span_model.specs.Columns.{sets_of}
use Rattle.span_model.specs.Span.{SameSpan}
use Rattle.gf2_span.specs.Basis.{row_sets}
use Rattle.gf2_span.proofs.Meeting.{HoldNoLeads}
use Rattle.gf2_span.proofs.span.Span.reduced_span.Given as goal

abbrev pub invariant-loop-row : goal.invariant-loop-row
invariant-loop-row l = record {
  columns : l.span.columns ≡ l.self.columns;
  clear : HoldNoLeads (row_sets l.self) (row_sets l.span);
  same : SameSpan (row_sets l.span ++ row_sets l.self) (sets_of (take l.row-index l.rows) ++ row_sets l.self);
}
