use Rattle.std.proofs.Common.{◌<◌, length, inl, inr, ap, false, ◌∙◌}
use Rattle.std.proofs.lemmas.List.{length-replicate}
use Rattle.gf2_span.specs.Basis.{row_sets}
use Rattle.tightprove.specs.Growth.{IsSaturated, left_over}
use Rattle.tightprove.proofs.Calls.{grown_at_start}
use Rattle.tightprove.proofs.Taking.{when_false}
use Rattle.tightprove.proofs.growth.grow.Goals as goal
use Rattle.tightprove.proofs.growth.grow.Goals.{then-is_within-via-then-is_within, then-is_within-via-else-is_within+in_ok-grow_pass+then-not-branch}

pub loop-alloc-init : goal.loop-alloc-init
loop-alloc-init c = record {
  growth = c.in_ok-growth.ensures.growth;
  grown = grown_at_start c.args.classes.now.list.items (row_sets c.args.candidates.now) c.in_ok-growth.growth.span c.in_ok-growth.ensures.empty;
  columns = ap length c.in_ok-scratch.ensures ∙ length-replicate c.args.classes.now.columns false;
}

pub returns-then-is_within-clause-ended : goal.returns-then-is_within-clause-ended
returns-then-is_within-clause-ended c = elim c.then-is_within.branch [
  | then-is_within-via-then-is_within w ↦ inl (rw w.growth-is w.if-is_within.ensures.answer)
  | then-is_within-via-else-is_within+in_ok-grow_pass+then-not-branch w ↦ inr (rw w.growth-is
      (when_false w.in_ok-grow_pass.field-0 (left_over w.grow_pass.new.growth < left_over c.loop-alloc.growth)
      (IsSaturated c.args.classes.now.list.items c.args.candidates.now (row_sets w.grow_pass.new.growth.span)) w.if-not-branch.true w.in_ok-grow_pass.ensures.answer))
]
