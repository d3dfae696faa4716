use Rattle.std.proofs.Common.{◌∙◌, arith}
use Rattle.gf2_span.specs.Basis.{row_sets}
use Rattle.tightprove.proofs.Closures.{keeps_follow}
use Rattle.tightprove.proofs.growth.shrink.Goals as goal

pub loop-alloc-preserved : goal.loop-alloc-preserved
loop-alloc-preserved c = record {
  columns = c.in_ok-less.ensures.columns ∙ c.loop-alloc.invariant.columns;
  leaks = keeps_follow c.args.classes.now.list.items (row_sets c.args.candidates.now) (row_sets c.loop-alloc.rest) (row_sets c.in_ok-less.less) c.loop-alloc.invariant.leaks
      c.in_ok-less.ensures.leaks;
  rank = omega (arith, c.if-rank.false, c.rank-in-loop-alloc.ensures.value, c.rank-in-loop-alloc-2.ensures.value, c.loop-alloc.invariant.rank);
}
