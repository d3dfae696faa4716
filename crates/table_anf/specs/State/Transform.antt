-- The transform of a table in place, pass by pass.
use Rattle.std.specs.Prelude.{◌≡◌, ℕ, zero, suc, ◌-◌, ◌≤◌, ◌^◌, ◌==◌, List, length, map, if◌then◌else◌, slice_index, bit_xor}
use Rattle.std.specs.Int.{bit_at}
use Rattle.std.specs.List.{range_with_len}
use Rattle.table_anf.specs.Coefficients.{xor_contained}

-- one pass: to each word whose index has bit k, the word at the index without that bit is added
abbrev pub with_pass : ℕ → (ℕ → ℕ) → ℕ → ℕ
with_pass k f index = if bit_at index k == 1 then bit_xor (f index) (f (index - 2 ^ k)) else f index

-- the words after passes 0 to k - 1
abbrev pub after_passes : ℕ → (ℕ → ℕ) → ℕ → ℕ
after_passes zero f index = f index
after_passes (suc k) f index = with_pass k (after_passes k f) index

-- for each monomial, the exclusive-or of the words at all indexes that it contains; taken twice, it gives the words
-- themselves
abbrev pub transformed : ℕ → List ℕ → List ℕ
transformed n words = map (xor_contained n (slice_index words)) (range_with_len 0 (2 ^ n))

-- what holds of the fields of a normal form
pub record AreFields (inputs outputs : ℕ) (words : List ℕ) : Type 0 where
  pub few_inputs : inputs ≤ 8
  pub few_outputs : outputs ≤ 64
  pub all : length words ≡ 2 ^ inputs
