use Rattle.std.proofs.Common.{◌≡◌, ◌<◌, ◌≤◌, ℕ, length, get_or}
use Rattle.tightprove.specs.Private.Images.{image_at, IsCoset, TakesPartners}
use Rattle.tightprove.proofs.cosets.is_apart.Given as goal

abbrev pub invariant-loop-k : goal.invariant-loop-k
invariant-loop-k l = record {
  some : 0 < length l.members.items;
  coset : IsCoset l.members.items;
  within : l.k ≤ length l.members.items;
  first : get_or l.members.items 0 0 ≡ image_at l.images l.i;
  taken : (n : ℕ) → n < l.k → TakesPartners l.classes.list.items l.images (get_or l.members.items n 0) l.members.items;
}
