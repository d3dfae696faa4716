use Rattle.std.proofs.Common.{◌≡◌, length}
use Rattle.gf2_span.specs.Basis.{row_sets}
use Rattle.tightprove.specs.Growth.{IsGrowth, IsGrown}
use Rattle.tightprove.proofs.Passes.{GrowPassed}
use Rattle.tightprove.proofs.growth.grow_pass.Given as goal

abbrev pub invariant-loop-i : goal.invariant-loop-i
invariant-loop-i l = record {
  growth : IsGrowth l.classes.list.items l.candidates l.growth;
  grown : IsGrown l.classes.list.items (row_sets l.candidates) (row_sets l.growth.span);
  columns : length l.scratch ≡ length l.initial.scratch;
  passed : GrowPassed l.classes.list.items l.candidates l.i-items l.i-index l.initial.growth l.grew l.growth;
}
