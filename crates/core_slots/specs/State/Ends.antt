-- Where registers are read for the last time.
use Rattle.std.specs.Prelude.{◌≡◌, ℕ, ◌+◌, ◌<◌, ◌==◌, nat_eq, nat_lt, List, [], ◌∷◌, length, drop, slice_index}
use Rattle.std.specs.Prelude.{Option, Some, None, if◌then◌else◌}
use Rattle.std.specs.List.{concat, list_any}
use Rattle.usuba0.specs.declared.circuit.Reg.{Reg}

-- the number of a register, where there is one
abbrev pub numbers : Option Reg → List ℕ
numbers None = []
numbers (Some register) = register.0 ∷ []

-- among these groups of registers that are read, each end is one more than the place of the last group that reads the
-- register of its equation, or 0 where none does
abbrev pub AreEnds : ℕ → List (List ℕ) → List ℕ → Type 0
AreEnds inputs groups ends =
    (j k : ℕ) → j < length ends
    → list_any (nat_eq (inputs + j)) (concat (drop k groups)) ≡ nat_lt k (slice_index ends j)

-- the end of this register's equation was set to this place plus 1, and the others were kept
abbrev pub AreNoted : ℕ → ℕ → ℕ → List ℕ → List ℕ → Type 0
AreNoted inputs place register old new =
    (j : ℕ) → j < length old
    → slice_index new j ≡ (if inputs + j == register then place + 1 else slice_index old j)
