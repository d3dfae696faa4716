use Rattle.std.proofs.Common.{◌≡◌, length}
use Rattle.tightprove.specs.Growth.{IsGrowth, left_over}
use Rattle.tightprove.proofs.growth.hull.Given as goal

abbrev pub invariant-loop-scratch : goal.invariant-loop-scratch
invariant-loop-scratch l = record {
  growth : IsGrowth l.classes.list.items l.candidates l.growth;
  columns : length l.scratch ≡ l.classes.columns;
}

abbrev pub decreases-loop-scratch : goal.decreases-loop-scratch
decreases-loop-scratch l = left_over l.growth
