use Rattle.std.proofs.Common.{◌≡◌, ◌≤◌, length}
use Rattle.core_slots.specs.State.Free.{is_free, AreAllotted}
use Rattle.core_slots.proofs.slots.allot.Given as goal

abbrev pub invariant-loop-gate : goal.invariant-loop-gate
invariant-loop-gate l =
    record {
      made : length l.allotment.places.items ≡ l.gate-index;
      slots : l.allotment.count ≤ length l.allotment.places.items;
      allotted : AreAllotted l.core l.allotment.places.items l.allotment.count (is_free l.allotment.free);
    }
