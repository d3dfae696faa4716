use Rattle.std.proofs.Common.{◌≡◌, ◌++◌, length, reverse}
use Rattle.usuba_parts.proofs.lists.in_order.Given as goal

abbrev pub invariant-loop-item : goal.invariant-loop-item
invariant-loop-item g l = l.items ++ reverse l.left ≡ reverse l.initial.left

abbrev pub decreases-loop-item : goal.decreases-loop-item
decreases-loop-item g l = length l.left
