use Rattle.std.proofs.Common.{◌≡◌, ℕ, [], length, get_or}
use Rattle.tightprove.proofs.classes.empty_lanes.Given as goal

abbrev pub invariant-loop : goal.invariant-loop
invariant-loop l = record {
  width : length l.lanes.items ≡ l.counter;
  lanes : (c : ℕ) → get_or l.lanes.items c [] ≡ [];
}
