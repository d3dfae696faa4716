use Rattle.std.proofs.Common.{◌≡◌, ◌<◌, ◌≤◌, ℕ, get_or}
use Rattle.tightprove.specs.Private.Affine.{cleared_by}
use Rattle.tightprove.proofs.affine.clear_all.Given as goal

abbrev pub invariant-loop-k : goal.invariant-loop-k
invariant-loop-k l = record {
  done : (j : ℕ) → j < l.k → get_or l.rests j 0 ≡ cleared_by l.pivot (get_or l.fn.rests j 0);
  others : (j : ℕ) → l.k ≤ j → get_or l.rests j 0 ≡ get_or l.fn.rests j 0;
}
