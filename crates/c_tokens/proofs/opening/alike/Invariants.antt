use Rattle.std.proofs.Common.{◌≡◌, ◌+◌, ◌-◌, ◌≤◌, length, drop}
use Rattle.c_tokens.specs.Openings as openings
use Rattle.c_tokens.proofs.opening.alike.Given as goal

-- what the rest has alike comes on top of what was counted
abbrev pub invariant-loop-n : goal.invariant-loop-n
invariant-loop-n l = record {
  so_far : openings.alike l.bytes l.text ≡ l.n + openings.alike (drop l.n l.bytes) (drop l.n l.text);
  within : l.n ≤ length l.bytes;
  inside : l.n ≤ length l.text;
}

abbrev pub decreases-loop-n : goal.decreases-loop-n
decreases-loop-n l = length l.bytes - l.n
