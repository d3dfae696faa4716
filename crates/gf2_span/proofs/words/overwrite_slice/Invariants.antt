use Rattle.std.proofs.Common.{◌-◌, ◌≤◌, ◌≡◌, ℕ, slice_index}
use Rattle.gf2_span.proofs.words.overwrite_slice.Given as goal
use Rattle.gf2_span.proofs.Kernels.{IsCopiedBelow}

abbrev pub invariant-loop-at : goal.invariant-loop-at
invariant-loop-at l = record { within : l.at ≤ l.end; copied : IsCopiedBelow l.fn.words l.other l.words l.at; rest : (k : ℕ) → l.old_end ≤ k → slice_index l.fn.words k ≡ 0 }

abbrev pub decreases-loop-at : goal.decreases-loop-at
decreases-loop-at l = l.end - l.at

abbrev pub invariant-loop-at-2 : goal.invariant-loop-at-2
invariant-loop-at-2 l = record { within : l.at ≤ l.end; copied : IsCopiedBelow l.fn.words l.other l.words l.at; rest : (k : ℕ) → l.old_end ≤ k → slice_index l.fn.words k ≡ 0 }

abbrev pub decreases-loop-at-2 : goal.decreases-loop-at-2
decreases-loop-at-2 l = l.end - l.at

abbrev pub invariant-loop-at-3 : goal.invariant-loop-at-3
invariant-loop-at-3 l = record { past : l.end ≤ l.at; copied : IsCopiedBelow l.fn.words l.other l.words l.at; rest : (k : ℕ) → l.old_end ≤ k → slice_index l.fn.words k ≡ 0 }

abbrev pub decreases-loop-at-3 : goal.decreases-loop-at-3
decreases-loop-at-3 l = l.old_end - l.at
