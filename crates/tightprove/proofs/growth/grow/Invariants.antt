use Rattle.std.proofs.Common.{◌≡◌, length}
use Rattle.gf2_span.specs.Basis.{row_sets}
use Rattle.tightprove.specs.Growth.{IsGrowth, IsGrown, left_over}
use Rattle.tightprove.proofs.growth.grow.Given as goal

abbrev pub invariant-loop-alloc : goal.invariant-loop-alloc
invariant-loop-alloc l = record {
  growth : IsGrowth l.classes.list.items l.candidates l.growth;
  grown : IsGrown l.classes.list.items (row_sets l.candidates) (row_sets l.growth.span);
  columns : length l.scratch ≡ l.classes.columns;
}

abbrev pub decreases-loop-alloc : goal.decreases-loop-alloc
decreases-loop-alloc l = left_over l.growth
