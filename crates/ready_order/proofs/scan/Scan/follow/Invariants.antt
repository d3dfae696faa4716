use Rattle.std.proofs.Common.{◌≡◌, length, drop}
use Rattle.ready_order.specs.State.Scan.{progress, all_considered}
use Rattle.ready_order.proofs.scan.Scan.follow.Given as goal

abbrev pub invariant-loop-k : goal.invariant-loop-k
invariant-loop-k l = record {
  as_many : length l.self.taken.items ≡ length l.table.done;
  left : all_considered l.table.done (drop l.k-index l.hint) (progress l.self) ≡ all_considered l.table.done l.hint (progress l.initial.self);
}
