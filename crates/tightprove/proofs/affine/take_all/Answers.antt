use Rattle.tightprove.proofs.Clearing.{mapped_none, mapped_twice}
use Rattle.tightprove.proofs.affine.take_all.Goals as goal

pub loop-k-init : goal.loop-k-init
loop-k-init c = record { mapped = mapped_none c.args.rests.now; steps = c.requires.steps }

pub loop-k-preserved : goal.loop-k-preserved
loop-k-preserved c = record {
  mapped = mapped_twice c.args.rests.now c.loop-k.rests c.take_class.new.rests c.loop-k.invariant.mapped c.in_ok-take_class.ensures.mapped;
  steps = c.in_ok-take_class.ensures.steps;
}
