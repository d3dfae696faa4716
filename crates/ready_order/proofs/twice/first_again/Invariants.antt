use Rattle.std.proofs.Common.{◌≡◌, drop}
use Rattle.usuba_code.specs.Code.{coded_at}
use Rattle.ready_order.specs.Numbered.{target_numbers, left_numbers}
use Rattle.ready_order.specs.State.Marks.{all_marked, first_marked}
use Rattle.ready_order.proofs.twice.first_again.Given as goal

abbrev pub invariant-loop-j : goal.invariant-loop-j
invariant-loop-j l = record {
  found : first_marked l.marks.items (drop l.j (coded_at l.table.done l.k).targets)
      ≡ first_marked l.initial.marks.items (coded_at l.table.done l.k).targets;
  marked : all_marked l.marks.items (target_numbers (drop l.j (coded_at l.table.done l.k).targets))
      ≡ all_marked l.initial.marks.items (left_numbers (coded_at l.table.done l.k));
}
