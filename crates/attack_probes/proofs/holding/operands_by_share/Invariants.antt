use Rattle.std.proofs.Common.{◌≡◌, [], replicate}
use Rattle.attack_probes.proofs.Grouping.{AreGrouped}
use Rattle.attack_probes.proofs.holding.operands_by_share.Given as goal

abbrev pub invariant-loop-share : goal.invariant-loop-share
invariant-loop-share l = l.shares.items ≡ replicate l._share []

abbrev pub invariant-loop-probe : goal.invariant-loop-probe
invariant-loop-probe l = AreGrouped l.probes l.probe-index l.shares.items
