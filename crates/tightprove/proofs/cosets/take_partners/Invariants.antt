use Rattle.std.proofs.Common.{ℕ, ◌<◌, get_or}
use Rattle.tightprove.specs.Private.Images.{image_at, IsKeptBy, Extends}
use Rattle.tightprove.proofs.cosets.take_partners.Given as goal

abbrev pub invariant-loop-j : goal.invariant-loop-j
invariant-loop-j l = record {
  extends : Extends l.fn.members.items l.members.items;
  kept : (k : ℕ) → k < l.j-index → IsKeptBy (image_at l.images (get_or l.partners k 0)) l.members.items;
}
