-- How a view is written.
use Rattle.std.specs.Prelude.{ℕ, suc, Bool, true, false, List, [], ◌∷◌, ◌++◌, length, codes, decimal}
use Rattle.linear_view.specs.declared.column.Column.{Column}
use Rattle.linear_view.specs.declared.column.ColumnKind.{ColumnKind}
use Rattle.linear_view.specs.declared.column.ColumnKind.TheVariants.{Input, Product, Refresh}
use Rattle.linear_view.specs.View.{Operands, LinearView}

-- the letter of a kind of column
abbrev pub kind_text : ColumnKind → List ℕ
kind_text Input = codes "i"
kind_text Product = codes "p"
kind_text Refresh = codes "f"

-- a column: the letter of its kind, its number, a dot and its bit
abbrev pub column_text : Column → List ℕ
column_text column = kind_text column.kind ++ decimal column.number ++ codes "." ++ decimal column.bit

-- the columns whose bit is set in a row, in order, each after one blank
abbrev pub row_text : List Column → List Bool → List ℕ
row_text [] row = []
row_text (column ∷ columns) [] = []
row_text (column ∷ columns) (true ∷ row) = codes " " ++ column_text column ++ row_text columns row
row_text (column ∷ columns) (false ∷ row) = row_text columns row

-- the line of the row of bit b of the operand of product k on a side
abbrev pub line_text : List Column → ℕ → List ℕ → ℕ → List Bool → List ℕ
line_text columns k side b row =
    codes "p" ++ decimal k ++ codes " " ++ side ++ codes " " ++ decimal b ++ codes " =" ++ row_text columns row ++ codes "\n"

-- the texts of items one after another, each by the item's number, where the first item has the number n
abbrev pub texts_from : {X : Type 0} → (ℕ → X → List ℕ) → ℕ → List X → List ℕ
texts_from text n [] = []
texts_from text n (item ∷ items) = text n item ++ texts_from text (suc n) items

-- the lines of the rows of the operand of product k on a side, the first of which is of bit 0
abbrev pub operand_text : List Column → ℕ → List ℕ → List (List Bool) → List ℕ
operand_text columns k side rows = texts_from (line_text columns k side) 0 rows

-- the lines of product k, first those of its left operand, then those of its right one
abbrev pub product_text : List Column → ℕ → Operands → List ℕ
product_text columns k operands = operand_text columns k (codes "left") operands.left ++ operand_text columns k (codes "right") operands.right

-- the line of the count of columns
abbrev pub head_text : ℕ → List ℕ
head_text columns = codes "columns " ++ decimal columns ++ codes "\n"

-- the text of a view: how many columns it has, and a line for each row of the operands of each product
abbrev pub rows_text : LinearView → List ℕ
rows_text view = head_text (length view.columns) ++ texts_from (product_text view.columns) 0 view.products
