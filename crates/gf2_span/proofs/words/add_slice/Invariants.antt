use Rattle.std.proofs.Common.{◌-◌, ◌≤◌}
use Rattle.gf2_span.proofs.words.add_slice.Given as goal
use Rattle.gf2_span.proofs.Kernels.{IsAddedBelow}

abbrev pub invariant-loop-at : goal.invariant-loop-at
invariant-loop-at l = record { within : l.at ≤ l.end; added : IsAddedBelow l.fn.words l.other l.words l.at }

abbrev pub decreases-loop-at : goal.decreases-loop-at
decreases-loop-at l = l.end - l.at

abbrev pub invariant-loop-at-2 : goal.invariant-loop-at-2
invariant-loop-at-2 l = record { within : l.at ≤ l.end; added : IsAddedBelow l.fn.words l.other l.words l.at }

abbrev pub decreases-loop-at-2 : goal.decreases-loop-at-2
decreases-loop-at-2 l = l.end - l.at
