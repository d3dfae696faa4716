use Rattle.tightprove.specs.Private.Affine.{AreMapped}
use Rattle.tightprove.specs.Private.Chains.{AreClassSteps}
use Rattle.tightprove.proofs.affine.take_all.Given as goal

abbrev pub invariant-loop-k : goal.invariant-loop-k
invariant-loop-k l = record {
  mapped : AreMapped l.fn.rests l.rests;
  steps : AreClassSteps l.classes.list.items l.steps.items;
}
