use Rattle.std.proofs.Common.{◌≡◌, drop}
use Rattle.usuba_code.specs.Code.{coded_at}
use Rattle.ready_order.specs.Numbered.{target_numbers, left_numbers}
use Rattle.ready_order.specs.State.Marks.{all_marked}
use Rattle.ready_order.proofs.marks.mark_left.Given as goal

abbrev pub invariant-loop-j : goal.invariant-loop-j
invariant-loop-j l =
    all_marked l.marks.items (target_numbers (drop l.j (coded_at l.table.done l.k).targets))
    ≡ all_marked l.initial.marks.items (left_numbers (coded_at l.table.done l.k))
