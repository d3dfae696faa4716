use Rattle.std.proofs.Common.{◌≡◌, ℕ, ◌<◌, true}
use Rattle.ready_order.specs.State.Marks.{is_marked}
use Rattle.ready_order.proofs.scan.Scan.first_left.Given as goal

abbrev pub invariant-loop-k : goal.invariant-loop-k
invariant-loop-k l = (j : ℕ) → j < l.k → is_marked l.self.taken.items j ≡ true
