use Rattle.std.proofs.Common.{◌≡◌, length}
use Rattle.gf2_span.specs.Echelon.{IsTraced}
use Rattle.gf2_span.proofs.Reducing.{IsReducing}
use Rattle.gf2_span.proofs.span.reduce_traced.Given as goal

abbrev pub invariant-loop-k : goal.invariant-loop-k
invariant-loop-k l = record {
  long : length l.row ≡ length l.initial.row;
  trace_long : length l.trace ≡ length l.initial.trace;
  traced : IsTraced l.rows.items l.traces l.initial.row l.initial.trace l.row l.trace;
  reducing : IsReducing l.leads.items l.row l.most l.end;
}

abbrev pub decreases-loop-k : goal.decreases-loop-k
decreases-loop-k l = l.most
