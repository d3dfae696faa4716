use Rattle.std.proofs.Common.{◌≡◌, length}
use Rattle.span_model.specs.Columns.{set_of, sets_of, ◌△◌}
use Rattle.span_model.specs.Span.{InSpan}
use Rattle.gf2_span.proofs.Reducing.{IsReducing}
use Rattle.gf2_span.proofs.span.reduce.Given as goal

abbrev pub invariant-loop-k : goal.invariant-loop-k
invariant-loop-k l = record {
  long : length l.row ≡ length l.initial.row;
  same : InSpan (sets_of l.rows.items) (set_of l.initial.row △ set_of l.row);
  reducing : IsReducing l.leads.items l.row l.most l.end;
}

abbrev pub decreases-loop-k : goal.decreases-loop-k
decreases-loop-k l = l.most
