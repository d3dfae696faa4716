use Rattle.std.proofs.Common.{take}
use Rattle.tightprove.specs.Private.Bounds.{IsLeastOf}
use Rattle.tightprove.proofs.bounds.least_of.Given as goal

abbrev pub invariant-loop-bound : goal.invariant-loop-bound
invariant-loop-bound l = IsLeastOf (take l.bound-index l.bounds) l.most l.least
