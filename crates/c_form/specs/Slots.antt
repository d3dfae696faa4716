-- The slots that the registers of equations live in.
use Rattle.std.specs.Prelude.{◌≡◌, ◌≢◌, ℕ, zero, suc, ◌+◌, ◌<◌, Bool, ◌&&◌, nat_eq, nat_lt, List, [], ◌∷◌, ◌++◌}
use Rattle.std.specs.Prelude.{length, drop, map, slice_index, max, count_by, IsTrue}
use Rattle.std.specs.List.{concat, list_any, range_with_len}
use Rattle.usuba0.specs.declared.circuit.Gate.{Gate}
use Rattle.usuba0.specs.declared.circuit.Gate.TheVariants as gate
use Rattle.usuba0.specs.Circuit.{Circuit}

-- the numbers of the registers that an equation reads
abbrev pub operands : Gate → List ℕ
operands (gate.Const c) = []
operands (gate.Xor a b) = a.0 ∷ b.0 ∷ []
operands (gate.Not a) = a.0 ∷ []
operands (gate.Mask c a) = a.0 ∷ []
operands (gate.And a b) = a.0 ∷ b.0 ∷ []
operands (gate.Shl k a) = a.0 ∷ []
operands (gate.Shr k a) = a.0 ∷ []
operands (gate.Rotl k a) = a.0 ∷ []
operands (gate.Refresh a) = a.0 ∷ []

-- the numbers of the outputs' registers, which the copies into the outputs read
abbrev pub copied : Circuit → List ℕ
copied core = map (λ output. output.0) core.outputs

-- the registers that each equation reads, and last those that are copied
abbrev pub reads : Circuit → List (List ℕ)
reads core = map operands core.equations ++ copied core ∷ []

-- whether the register of equation j is read at equation k or later, by an equation or an output copy
abbrev pub is_read : Circuit → ℕ → ℕ → Bool
is_read core k j = list_any (nat_eq (core.inputs + j)) (concat (drop k (reads core)))

-- whether the register of equation j is live at equation k: it is made earlier and read there or later
abbrev pub is_live : Circuit → ℕ → ℕ → Bool
is_live core k j = nat_lt j k && is_read core k j

-- with these slots of the equations a register that is live at equation k holds this slot
abbrev pub IsHeld : Circuit → List ℕ → ℕ → ℕ → Type 0
IsHeld core slots k slot = (j : ℕ) × (IsTrue (is_live core k j) × (slice_index slots j ≡ slot))

-- it is the least number that no register live at equation k holds
pub record IsLeastFree (core : Circuit) (slots : List ℕ) (k slot : ℕ) : Type 0 where
  pub free : (j : ℕ) → IsTrue (is_live core k j) → slice_index slots j ≢ slot
  pub least : (less : ℕ) → less < slot → IsHeld core slots k less

-- the slot of each equation is the least number that no register live at it holds
pub record AreLeastSlots (core : Circuit) (slots : List ℕ) : Type 0 where
  pub count : length slots ≡ length core.equations
  pub least : (k : ℕ) → k < length core.equations → IsLeastFree core slots k (slice_index slots k)

-- the greatest slot plus 1, or 0 where there is none
abbrev pub slot_count : List ℕ → ℕ
slot_count [] = 0
slot_count (slot ∷ slots) = max (slot + 1) (slot_count slots)

-- slot s was last written by equation j before call k, where the equations before it wrote these slots
pub record IsLastWriter (slots : List ℕ) (k slot j : ℕ) : Type 0 where
  pub earlier : j < k
  pub wrote : slice_index slots j ≡ slot
  pub last : (i : ℕ) → j < i → i < k → slice_index slots i ≢ slot

-- how many registers of equations are live at equation k
abbrev pub live_count : Circuit → ℕ → ℕ
live_count core k = count_by (is_live core k) (range_with_len 0 k)

-- one more than the greatest number of registers of equations that are live at one of the first n equations, or 0 where
-- there is none
abbrev pub most_live : Circuit → ℕ → ℕ
most_live core zero = 0
most_live core (suc n) = max (live_count core n + 1) (most_live core n)

-- each core has least slots
abbrev pub SlotsExist : Type 0
SlotsExist = (core : Circuit) → (slots : List ℕ) × AreLeastSlots core slots

-- a core has no two lists of least slots
abbrev pub SlotsAreUnique : Type 0
SlotsAreUnique = (core : Circuit) (first second : List ℕ) → AreLeastSlots core first → AreLeastSlots core second
    → first ≡ second

-- no fewer slots serve: there is one more than the greatest number of registers that are live at one equation
abbrev pub SlotsAreFewest : Type 0
SlotsAreFewest = (core : Circuit) (slots : List ℕ) → AreLeastSlots core slots
    → slot_count slots ≡ most_live core (length core.equations)
