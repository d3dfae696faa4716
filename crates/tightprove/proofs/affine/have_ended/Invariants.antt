use Rattle.std.proofs.Common.{◌<◌, ℕ}
use Rattle.tightprove.specs.Private.Affine.{HasEnded}
use Rattle.tightprove.proofs.affine.have_ended.Given as goal

abbrev pub invariant-loop-k : goal.invariant-loop-k
invariant-loop-k l = (k : ℕ) → k < l.k → HasEnded l.classes.list.items l.rests l.i k
