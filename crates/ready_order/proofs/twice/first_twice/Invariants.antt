use Rattle.std.proofs.Common.{◌≡◌, drop}
use Rattle.ready_order.specs.Numbered.{all_targets}
use Rattle.ready_order.specs.State.Marks.{first_marked}
use Rattle.ready_order.proofs.twice.first_twice.Given as goal

abbrev pub invariant-loop-k : goal.invariant-loop-k
invariant-loop-k l = first_marked l.marks.items (all_targets (drop l.k l.table.done)) ≡ first_marked l.initial.marks.items (all_targets l.table.done)
