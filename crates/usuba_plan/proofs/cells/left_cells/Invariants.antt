use Rattle.std.proofs.Common.{◌≡◌, take}
use Rattle.usuba_code.specs.Code.{coded_at}
use Rattle.ready_order.specs.Numbered.{target_numbers}
use Rattle.usuba_plan.proofs.cells.left_cells.Given as goal

abbrev pub invariant-loop-j : goal.invariant-loop-j
invariant-loop-j l = l.cells.items ≡ target_numbers (take l.j (coded_at l.table.done l.instance).targets)
