use Rattle.tightprove.specs.Private.Affine.{AreRests}
use Rattle.tightprove.specs.Private.Chains.{AreClassSteps}
use Rattle.tightprove.proofs.affine.is_apart_by_rests.Given as goal

abbrev pub invariant-rounds : goal.invariant-rounds
invariant-rounds l = record {
  rests : AreRests l.classes.list.items l.rests.items;
  steps : AreClassSteps l.classes.list.items l.steps.items;
}
