use Rattle.std.proofs.Common.{◌≡◌, length}
use Rattle.tightprove.proofs.known.Known.holds.Given as goal

abbrev pub invariant-loop-n : goal.invariant-loop-n
invariant-loop-n l = length l.scratch ≡ length l.initial.scratch
