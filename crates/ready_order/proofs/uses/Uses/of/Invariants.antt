use Rattle.std.proofs.Common.{◌≡◌, drop}
use Rattle.ready_order.specs.Numbered.{assigned_numbers, read_numbers}
use Rattle.ready_order.specs.State.Marks.{all_marked}
use Rattle.ready_order.proofs.uses.Uses.of.Given as goal

abbrev pub invariant-loop-k : goal.invariant-loop-k
invariant-loop-k l = record {
  assigned : all_marked l.assigned.items (assigned_numbers (drop l.k l.table.done)) ≡ all_marked l.initial.assigned.items (assigned_numbers l.table.done);
  read : all_marked l.read.items (read_numbers (drop l.k l.table.done)) ≡ all_marked l.initial.read.items (read_numbers l.table.done);
}
