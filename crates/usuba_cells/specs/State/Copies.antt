-- Copies of numbers, one for each picked part.
use Rattle.std.specs.Prelude.{ℕ, ◌+◌, ◌-◌, ◌*◌, nat_lt, if◌then◌else◌, ◌==◌, List, [], map, flat_map}
use Rattle.usuba_model.specs.Cells.{from_to}

-- numbers, each raised
abbrev pub raised : ℕ → List ℕ → List ℕ
raised by numbers = map (λ number. by + number) numbers

-- the elements of each part in turn, where each part has these
abbrev pub copies : ℕ → List ℕ → List ℕ → List ℕ
copies stride elements parts = flat_map (λ part. raised (part * stride) elements) parts

-- the part after one on the way to the last
abbrev pub next_part : ℕ → ℕ → ℕ
next_part part last = if nat_lt part last then part + 1 else part - 1

-- the parts after one up to the last
abbrev pub later_parts : ℕ → ℕ → List ℕ
later_parts part last = if part == last then [] else from_to (next_part part last) last
