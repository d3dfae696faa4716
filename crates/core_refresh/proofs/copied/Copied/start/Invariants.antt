use Rattle.core_refresh.specs.State.Copying.{AreNumbers}
use Rattle.core_refresh.proofs.copied.Copied.start.Given as goal

abbrev pub invariant-loop-r : goal.invariant-loop-r
invariant-loop-r l = AreNumbers (λ r. r) l.r l.numbers.items
