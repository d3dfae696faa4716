use Rattle.std.proofs.Common.{◌-◌, ◌<◌, ◌≤◌, ◌≡◌, ℕ, slice_index}
use Rattle.gf2_span.proofs.words.skipped.Given as goal

abbrev pub invariant-loop-at : goal.invariant-loop-at
invariant-loop-at l = record {
  within : l.at ≤ l.end;
  past : l.from ≤ l.at;
  zero : (k : ℕ) → l.from ≤ k → k < l.at → slice_index l.words k ≡ 0;
}

abbrev pub decreases-loop-at : goal.decreases-loop-at
decreases-loop-at l = l.end - l.at
