use Rattle.std.proofs.Common.{◌≡◌, ◌++◌, length, reverse}
use Rattle.linear_view.specs.View.{operands_of}
use Rattle.linear_view.proofs.view.pairs.Given as goal

abbrev pub invariant-loop-rows : goal.invariant-loop-rows
invariant-loop-rows l =
    record {
      count : length l.left ≡ length l.right;
      pairs : operands_of l.left l.right ++ reverse l.pairs.items ≡ operands_of l.fn.left l.fn.right;
    }

abbrev pub decreases-loop-rows : goal.decreases-loop-rows
decreases-loop-rows l = length l.left
