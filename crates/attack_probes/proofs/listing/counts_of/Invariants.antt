use Rattle.attack_probes.specs.declared.listing.TheConstants.{MANY}
use Rattle.attack_probes.proofs.Counting.{AreFirstCounts}
use Rattle.attack_probes.proofs.listing.counts_of.Given as goal

abbrev pub invariant-loop-step : goal.invariant-loop-step
invariant-loop-step l = AreFirstCounts MANY l.steps l.counts.items l.step-index
