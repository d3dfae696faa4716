use Rattle.std.proofs.Common.{◌≡◌, ◌-◌, length}
use Rattle.std.specs.List.{range_with_len}
use Rattle.ready_order.specs.State.Scan.{progress, all_considered}
use Rattle.ready_order.proofs.scan.Scan.pass.Given as goal

abbrev pub invariant-loop-k : goal.invariant-loop-k
invariant-loop-k l = record {
  as_many : length l.self.taken.items ≡ length l.table.done;
  left : all_considered l.table.done (range_with_len l.k (length l.table.done - l.k)) (progress l.self)
      ≡ all_considered l.table.done (range_with_len 0 (length l.table.done)) (progress l.initial.self);
}
