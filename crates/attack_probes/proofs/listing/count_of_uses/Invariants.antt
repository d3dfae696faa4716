use Rattle.std.proofs.Common.{◌≡◌, take, min, sum_by, slice_index}
use Rattle.attack_probes.specs.declared.listing.TheConstants.{MANY}
use Rattle.attack_probes.proofs.listing.count_of_uses.Given as goal

abbrev pub invariant-loop-k : goal.invariant-loop-k
invariant-loop-k l = l.count ≡ min (sum_by (λ k. slice_index l.counts k) (take l.k-index l.uses)) MANY
