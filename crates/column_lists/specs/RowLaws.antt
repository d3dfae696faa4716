-- The laws of lists of columns.
use Rattle.std.specs.Prelude.{◌≡◌, ◌<◌, ◌↔◌, ℕ, Bool, true, false, List, length, map, slice_get, slice_index_or, Option, Some, All, Contains}
use Rattle.std.specs.List.Sorted.{IsStrictlyIncreasing}
use Rattle.linear_view.specs.RowsText.{row_text}
use Rattle.linear_view.specs.View.{LinearView, IsView}
use Rattle.linear_view.specs.declared.column.Column.{Column}
use Rattle.text_lines.specs.Words.{spaced, are_plain_words}
use Rattle.column_lists.specs.Names.{column_of, are_columns}
use Rattle.column_lists.specs.Rows.{column_words, named_row}

-- the words name the columns at these places, which rise: each word a column that there is, and after the one before it
pub record NameInOrder (columns : List Column) (words : List (List ℕ)) (places : List ℕ) : Type 0 where
  pub have : All (λ place. place < length columns) places
  pub named : map column_of words ≡ map (slice_get columns) places
  pub rise : IsStrictlyIncreasing places

-- a row of so many bits, of which those at these places are set
pub record HasBitsAt (places : List ℕ) (columns : ℕ) (row : List Bool) : Type 0 where
  pub size : length row ≡ columns
  pub set : (c : ℕ) → (slice_index_or row c false ≡ true) ↔ Contains places c

-- words stand for a row exactly where they name columns in order, and then for the row of these columns
pub record RowsAreNamed : Type 0 where
  pub named : (columns : List Column) (words : List (List ℕ)) (row : List Bool) → named_row columns words ≡ Some row
      → (places : List ℕ) × NameInOrder columns words places × HasBitsAt places (length columns) row
  pub found : (view : LinearView) (words : List (List ℕ)) (places : List ℕ) → IsView view
      → NameInOrder view.columns words places
      → (row : List Bool) × (named_row view.columns words ≡ Some row) × HasBitsAt places (length view.columns) row

-- the words of a row are what is written of it, each after a blank; each of them names a column and has no blank and no
-- LF; they stand for the row, and no other words do
pub record RowsReadBack : Type 0 where
  pub text : (columns : List Column) (row : List Bool) → spaced (column_words columns row) ≡ row_text columns row
  pub plain : (view : LinearView) (row : List Bool) → IsView view
      → are_plain_words (column_words view.columns row) ≡ true
  pub columns : (view : LinearView) (row : List Bool) → IsView view → are_columns (column_words view.columns row) ≡ true
  pub read : (view : LinearView) (row : List Bool) → IsView view → length row ≡ length view.columns
      → named_row view.columns (column_words view.columns row) ≡ Some row
  pub written : (view : LinearView) (words : List (List ℕ)) (row : List Bool) → IsView view
      → named_row view.columns words ≡ Some row
      → words ≡ column_words view.columns row
