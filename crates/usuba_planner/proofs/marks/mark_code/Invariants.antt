use Rattle.std.proofs.Common.{◌≡◌, drop}
use Rattle.ready_order.specs.State.Marks.{all_marked}
use Rattle.usuba_planner.specs.State.Calls.{called_in}
use Rattle.usuba_planner.proofs.marks.mark_code.Given as goal

abbrev pub invariant-loop-operation : goal.invariant-loop-operation
invariant-loop-operation l =
    all_marked l.marks.items (called_in (drop l.operation-index l.code)) ≡ all_marked l.initial.marks.items (called_in l.code)
