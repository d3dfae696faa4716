use Rattle.std.proofs.Common.{◌-◌, length}
use Rattle.attack_probes.specs.Listings.{probes_of}
use Rattle.attack_probes.specs.Unfolding.{unfolding_of}
use Rattle.attack_probes.proofs.Stacking.{IsUnfoldedSoFar}
use Rattle.attack_probes.proofs.listing.listed.Given as goal

abbrev pub invariant-loop-next : goal.invariant-loop-next
invariant-loop-next l = IsUnfoldedSoFar l.steps l.root (probes_of l.list) l.stack.items

abbrev pub decreases-loop-next : goal.decreases-loop-next
decreases-loop-next l = length (unfolding_of l.steps l.root) - length l.list
