use Rattle.std.proofs.Common.{◌<◌, ℕ, All, length}
use Rattle.std.specs.List.{Contains}
use Rattle.tightprove.proofs.searches.largest_first.Given as goal

abbrev pub invariant-loop-i : goal.invariant-loop-i
invariant-loop-i l = record {
  all : (k : ℕ) → k < l.i → Contains l.order.items k;
  numbers : All (λ k. k < length l.classes.list.items) l.order.items;
}
