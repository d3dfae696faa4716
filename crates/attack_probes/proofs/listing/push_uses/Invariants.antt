use Rattle.std.proofs.Common.{◌≡◌, ◌++◌, map}
use Rattle.attack_probes.proofs.Stacking.{use_under}
use Rattle.attack_probes.proofs.listing.push_uses.Given as goal

abbrev pub invariant-loop-k : goal.invariant-loop-k
invariant-loop-k l = l.stack.items ≡ l.initial.stack.items ++ map (use_under l.user) (map (λ k. k.now) l.yielded)
