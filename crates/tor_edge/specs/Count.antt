-- Counts of faults: numbers of 64 bits that never fall, and that stay at their last value.
use Rattle.std.specs.Prelude.{ℕ, ◌+◌, ◌-◌, ◌^◌, ◌≤◌, min}

-- the last value of a count
abbrev pub last_count : ℕ
last_count = 2 ^ 64 - 1

-- the count rose from before to now, or stands at its last value
abbrev pub Rose : ℕ → ℕ → Type 0
Rose before now = (min (before + 1) last_count ≤ now) × (now ≤ last_count)
