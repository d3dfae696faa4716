use Rattle.std.proofs.Common.{◌≡◌, ◌*◌, take}
use Rattle.span_model.specs.Columns.{sets_of}
use Rattle.gf2_span.specs.Basis.{row_sets}
use Rattle.span_select.specs.Words.{IsLifted}
use Rattle.span_select.proofs.words.lift.Given as goal

abbrev pub invariant-loop-row : goal.invariant-loop-row
invariant-loop-row l = record {
  columns : l.span.columns ≡ 2 * l.columns;
  lifted : IsLifted l.columns (row_sets l.basis) (sets_of (take l.row-index l.rows)) (row_sets l.span);
}
