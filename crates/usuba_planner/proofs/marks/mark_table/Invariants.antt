use Rattle.std.proofs.Common.{◌≡◌, drop}
use Rattle.ready_order.specs.State.Marks.{all_marked}
use Rattle.usuba_planner.specs.State.Calls.{all_called}
use Rattle.usuba_planner.proofs.marks.mark_table.Given as goal

abbrev pub invariant-loop-k : goal.invariant-loop-k
invariant-loop-k l =
    all_marked l.marks.items (all_called (drop l.k l.table.done)) ≡ all_marked l.initial.marks.items (all_called l.table.done)
