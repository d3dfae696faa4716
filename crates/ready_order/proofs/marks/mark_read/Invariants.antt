use Rattle.std.proofs.Common.{◌≡◌, drop}
use Rattle.ready_order.specs.Numbered.{numbers_read}
use Rattle.ready_order.specs.State.Marks.{all_marked}
use Rattle.ready_order.proofs.marks.mark_read.Given as goal

abbrev pub invariant-loop-operation : goal.invariant-loop-operation
invariant-loop-operation l =
    all_marked l.marks.items (numbers_read (drop l.operation-index l.code)) ≡ all_marked l.initial.marks.items (numbers_read l.code)
