-- Rows as 64-bit words, the lowest bit of the first word being column 0.
use Rattle.std.specs.Prelude.{◌≡◌, ℕ, Bool, true, false, List, map, length, ◌+◌, ◌*◌, ◌/◌, ◌%◌, ◌≤◌, ◌<◌, ◌^◌, eqb, slice_index}
use Rattle.std.specs.Int.{bit_at}
use Rattle.std.specs.List.{range_with_len}
use Rattle.span_model.specs.Columns.{Columns}

-- whether a column is set in the words
unfoldable pub is_set : List ℕ → ℕ → Bool
is_set words column = eqb (bit_at (slice_index words (column / 64)) (column % 64)) 1

-- the bits of so many columns, in order
unfoldable pub bits_of : ℕ → List ℕ → List Bool
bits_of columns words = map (is_set words) (range_with_len 0 columns)

-- the columns are numbered in 32 bits, there are just as many words as they need, and nothing is set past them
pub record IsPadded (columns : ℕ) (words : List ℕ) : Type 0 where
  pub small : columns < 2 ^ 32
  pub long : length words ≡ (columns + 63) / 64
  pub clear : (column : ℕ) → columns ≤ column → is_set words column ≡ false

-- how a row is kept: its words, of which those from number `end` on are zero
pub record IsRow (columns : ℕ) (words : List ℕ) (end : ℕ) : Type 0 where
  pub padded : IsPadded columns words
  pub within : end ≤ length words
  pub rest : (column : ℕ) → 64 * end ≤ column → is_set words column ≡ false

-- of the columns below the end, the column is the greatest one in the set
pub record IsLastBelow (row : Columns ℕ) (end column : ℕ) : Type 0 where
  pub below : column < end
  pub there : row column ≡ true
  pub none_after : (after : ℕ) → column < after → after < end → row after ≡ false
