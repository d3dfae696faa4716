use Rattle.std.proofs.Common.{◌≡◌, drop}
use Rattle.std.specs.Prelude.{◌-ℤ◌}
use Rattle.usuba_cells.specs.Counters.{around}
use Rattle.usuba_model.specs.Unrolled.{from_up}
use Rattle.usuba_walk.proofs.ItemWalks.{ItemsSoFar, ValuesSoFar}
use Rattle.usuba_walk.proofs.items.+items.Given as goal

abbrev pub invariant-walk_items-loop-item : goal.invariant-walk_items-loop-item
invariant-walk_items-loop-item l = record {
  left : ItemsSoFar l.scope.width l.scope.definitions.now l.scope.variables (around l.fn.counters.items) l.fn.progress l.progress l.items (drop l.item-index l.items);
  counters : l.counters.items ≡ l.fn.counters.items;
}

abbrev pub invariant-walk_instances-loop-value : goal.invariant-walk_instances-loop-value
invariant-walk_instances-loop-value l = record {
  left : ValuesSoFar l.scope.width l.scope.definitions.now l.scope.variables (around l.fn.counters.items) l.repeated l.fn.progress l.progress
      (from_up l.low (l.high -ℤ l.low)) (from_up l.value (l.high -ℤ l.value));
  counters : l.counters.items ≡ l.fn.counters.items;
}
