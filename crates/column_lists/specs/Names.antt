-- The column that a word names.
use Rattle.std.specs.Prelude.{ℕ, ◌==◌, ◌&&◌, if◌then◌else◌, Bool, List, [], ◌∷◌, Option, None, Some, is_some}
use Rattle.std.specs.List.{slice_split, list_all}
use Rattle.linear_view.specs.declared.column.Column.{Column}
use Rattle.linear_view.specs.declared.column.ColumnKind.{ColumnKind}
use Rattle.linear_view.specs.declared.column.ColumnKind.TheVariants.{Input, Product, Refresh}
use Rattle.text_lines.specs.Numbers.{is_number, value_of}

-- the kind of columns that a letter stands for
abbrev pub kind_of : ℕ → Option ColumnKind
kind_of letter =
    if letter == 105 then Some Input  -- i
    else (if letter == 112 then Some Product  -- p
    else (if letter == 102 then Some Refresh  -- f
    else None))

-- a column of this kind, where two numbers stand behind its letter
abbrev pub column_of_parts : Option ColumnKind → List (List ℕ) → Option Column
column_of_parts (Some kind) (number ∷ bit ∷ []) =
    if is_number number && is_number bit
    then Some (record { kind = kind; number = value_of number; bit = value_of bit })
    else None
column_of_parts _ _ = None

-- the column that a word names: its letter, a number, a dot and a number, which may be of any size
abbrev pub column_of : List ℕ → Option Column
column_of [] = None
column_of (letter ∷ place) = column_of_parts (kind_of letter) (slice_split (λ byte. byte == 46) place)

-- all the words name columns
abbrev pub are_columns : List (List ℕ) → Bool
are_columns words = list_all (λ word. is_some (column_of word)) words
