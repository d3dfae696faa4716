-- The slots that are free, while equation after equation gets one.
use Rattle.std.specs.Prelude.{◌≡◌, ◌≢◌, ◌⊎◌, ℕ, ◌+◌, ◌-◌, ◌<◌, ◌≤◌, Bool, true, false, not, ◌==◌, ◌&&◌, nat_le}
use Rattle.std.specs.Prelude.{List, length, slice_index, IsTrue}
use Rattle.std.specs.Ordering.{nat_cmp}
use Rattle.std.specs.BTreeSet.{BTreeSet, contains}
use Rattle.usuba0.specs.Circuit.{Circuit}
use Rattle.c_form.specs.Slots.{is_live, IsHeld, IsLeastFree, slot_count}

-- whether a slot is free
abbrev pub is_free : BTreeSet ℕ → ℕ → Bool
is_free free slot = contains nat_cmp free slot

-- the least free slot was taken, or the slot of this number where none was free
pub record IsTaken (old new : ℕ → Bool) (count slot : ℕ) : Type 0 where
  pub found : (old slot ≡ true) ⊎ (slot ≡ count)
  pub least : (s : ℕ) → old s ≡ true → slot ≤ s
  pub rest : (s : ℕ) → new s ≡ (old s && not (s == slot))

-- whether this is the slot of a register that is read at this place for the last time
abbrev pub is_released : ℕ → List ℕ → List ℕ → ℕ → ℕ → ℕ → Bool
is_released inputs places ends place slot register =
    nat_le inputs register && (slice_index ends (register - inputs) == place + 1)
    && (slot == slice_index places (register - inputs))

-- what holds once the first equations have these slots, which are so many different ones, with the free ones among them
pub record AreAllotted (core : Circuit) (places : List ℕ) (count : ℕ) (free : ℕ → Bool) : Type 0 where
  pub counted : count ≡ slot_count places
  pub least : (k : ℕ) → k < length places → IsLeastFree core places k (slice_index places k)
  pub below : (s : ℕ) → free s ≡ true → s < count
  pub unheld : (s : ℕ) → free s ≡ true → (j : ℕ) → IsTrue (is_live core (length places) j) → slice_index places j ≢ s
  pub held : (s : ℕ) → s < count → free s ≡ false → IsHeld core places (length places) s
