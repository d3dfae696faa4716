use Rattle.std.proofs.Common.{◌≡◌, length}
use Rattle.tightprove.specs.Growth.{IsGrowth}
use Rattle.tightprove.proofs.Passes.{HullPassed}
use Rattle.tightprove.proofs.growth.hull_pass.Given as goal

abbrev pub invariant-loop-i : goal.invariant-loop-i
invariant-loop-i l = record {
  growth : IsGrowth l.classes.list.items l.candidates l.growth;
  columns : length l.scratch ≡ length l.initial.scratch;
  passed : HullPassed l.classes.list.items l.candidates l.i-items l.i-index l.initial.growth l.grew l.growth;
}
