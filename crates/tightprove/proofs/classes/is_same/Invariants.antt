use Rattle.std.proofs.Common.{◌≡◌, ◌<◌, ℕ, [], length, get_or}
use Rattle.span_model.specs.Columns.{set_of}
use Rattle.span_model.specs.Span.{InSpan}
use Rattle.gf2_span.specs.Basis.{row_sets}
use Rattle.tightprove.proofs.classes.is_same.Given as goal

abbrev pub invariant-loop-row : goal.invariant-loop-row
invariant-loop-row l = record {
  columns : length l.scratch ≡ length l.initial.scratch;
  inside : (k : ℕ) → k < l.row-index → InSpan (row_sets l.span) (set_of (get_or l.rows k []));
}
