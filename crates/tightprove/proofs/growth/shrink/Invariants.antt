use Rattle.std.proofs.Common.{◌≡◌, ◌≤◌, length}
use Rattle.gf2_span.specs.Basis.{row_sets}
use Rattle.tightprove.specs.Classes.{KeepsLeaks}
use Rattle.tightprove.proofs.growth.shrink.Given as goal

abbrev pub invariant-loop-alloc : goal.invariant-loop-alloc
invariant-loop-alloc l = record {
  columns : l.rest.columns ≡ l.candidates.columns;
  leaks : KeepsLeaks l.classes.list.items (row_sets l.candidates) (row_sets l.rest);
  rank : length l.rest.rows ≤ length l.candidates.rows;
}

abbrev pub decreases-loop-alloc : goal.decreases-loop-alloc
decreases-loop-alloc l = length l.rest.rows
