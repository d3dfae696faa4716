use Rattle.tightprove.specs.Private.Affine.{AreMapped}
use Rattle.tightprove.specs.Private.Chains.{NotesPartners}
use Rattle.tightprove.proofs.affine.take_partners.Given as goal

abbrev pub invariant-loop-j : goal.invariant-loop-j
invariant-loop-j l = record {
  mapped : AreMapped l.fn.rests l.rests;
  steps : NotesPartners l.from l.partners l.fn.steps.items l.steps.items;
}
