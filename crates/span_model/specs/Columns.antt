-- Sets of columns. What a column is stays open: a number, or a data type of named columns.
use Rattle.std.specs.Prelude.{ℕ, Bool, false, not, List, map, slice_index_or}
use Rattle.std.specs.Bool.{beq}

-- a set of columns, as the test whether a column is in it
abbrev pub Columns : Type 0 → Type 0
Columns C = C → Bool

-- the set with no column
abbrev pub empty : {C : Type 0} → Columns C
empty column = false

-- the symmetric difference: the columns that are in exactly one of the two sets
infixl 60 ◌△◌
abbrev pub ◌△◌ : {C : Type 0} → Columns C → Columns C → Columns C
(a △ b) column = not (beq (a column) (b column))

-- a row of bits as the set of the numbers of the columns whose bit is set; no column past the row's end is in it
abbrev pub set_of : List Bool → Columns ℕ
set_of row column = slice_index_or row column false

-- rows of bits as sets of numbered columns
abbrev pub sets_of : List (List Bool) → List (Columns ℕ)
sets_of rows = map set_of rows
