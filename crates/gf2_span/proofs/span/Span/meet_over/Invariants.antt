use Rattle.std.proofs.Common.{◌≡◌}
use Rattle.gf2_span.specs.Basis.{row_sets}
use Rattle.gf2_span.proofs.Meeting.{IsMeeting}
use Rattle.gf2_span.proofs.span.Span.meet_over.Given as goal

abbrev pub invariant-loop-row : goal.invariant-loop-row
invariant-loop-row l = record {
  columns : l.meet.columns ≡ l.base.columns;
  rest_columns : l.rests.columns ≡ l.base.columns;
  meeting : IsMeeting l.base.columns (row_sets l.base) (row_sets l.more) l.a.rows l.row-index l.rests.rows l.traces.items l.meet.rows;
}
