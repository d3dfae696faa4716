-- The list of columns that stands for a row: the words of the columns whose bit is set, in their order.
use Rattle.std.specs.Prelude.{ℕ, ◌==◌, Bool, true, false, ◌&&◌, if◌then◌else◌, List, [], ◌∷◌, Option, None, Some}
use Rattle.std.specs.Option.{option_map}
use Rattle.std.specs.Str.{bytes_eq}
use Rattle.linear_view.specs.RowsText.{kind_text, column_text}
use Rattle.linear_view.specs.declared.column.Column.{Column}
use Rattle.column_lists.specs.Names.{column_of}

-- the words of those of the columns whose bit is set in a row
abbrev pub column_words : List Column → List Bool → List (List ℕ)
column_words [] row = []
column_words (column ∷ columns) [] = []
column_words (column ∷ columns) (true ∷ row) = column_text column ∷ column_words columns row
column_words (column ∷ columns) (false ∷ row) = column_words columns row

-- the column that is named is this one
abbrev pub is_column : Option Column → Column → Bool
is_column None column = false
is_column (Some named) column =
    bytes_eq (kind_text named.kind) (kind_text column.kind) && named.number == column.number && named.bit == column.bit

-- The row that the words stand for, where they name some of the columns in their order, each at most once. None where a
-- word names a column that is not among the columns, or does not stand after the one before it.
abbrev pub named_row : List Column → List (List ℕ) → Option (List Bool)
named_row [] [] = Some []
named_row [] (word ∷ words) = None
named_row (column ∷ columns) [] = option_map (λ row. false ∷ row) (named_row columns [])
named_row (column ∷ columns) (word ∷ words) =
    if is_column (column_of word) column then option_map (λ row. true ∷ row) (named_row columns words)
    else option_map (λ row. false ∷ row) (named_row columns (word ∷ words))
