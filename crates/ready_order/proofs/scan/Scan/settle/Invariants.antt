use Rattle.std.proofs.Common.{◌≡◌, ◌-◌, length}
use Rattle.ready_order.specs.State.Scan.{progress, set_count, Leads}
use Rattle.ready_order.proofs.scan.Scan.settle.Given as goal

abbrev pub invariant-loop : goal.invariant-loop
invariant-loop l = record {
  as_many : length l.self.taken.items ≡ length l.table.done;
  count : set_count l.self.taken.items ≡ length l.self.order.items;
  leads : Leads l.table.done (progress l.initial.self) (progress l.self);
}

abbrev pub decreases-loop : goal.decreases-loop
decreases-loop l = length l.table.done - length l.self.order.items
