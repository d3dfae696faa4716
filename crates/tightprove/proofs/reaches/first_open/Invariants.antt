use Rattle.std.proofs.Common.{◌≡◌, ◌<◌, ℕ, false}
use Rattle.tightprove.specs.Private.Gathered.{marks_of, place_at}
use Rattle.tightprove.specs.Private.Affine.{IsClosedAt}
use Rattle.tightprove.proofs.reaches.first_open.Given as goal

abbrev pub invariant-loop-k : goal.invariant-loop-k
invariant-loop-k l =
    (j : ℕ) → j < l.k → marks_of l.set j ≡ false → IsClosedAt l.rests l.i (place_at l.gathered.places.items j)
