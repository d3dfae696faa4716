use Rattle.std.proofs.Common.{◌≡◌, replicate, false}
use Rattle.std.specs.List.{range_with_len}
use Rattle.ready_order.specs.State.Marks.{all_marked}
use Rattle.ready_order.proofs.marks.input_marks.Given as goal

abbrev pub invariant-loop-cell : goal.invariant-loop-cell
invariant-loop-cell l = l.marks.items ≡ all_marked (replicate l.fn.cells false) (range_with_len 0 l.cell)
