-- What is seen of a view: the columns by their names, and the rows of each product's operands.
use Rattle.std.specs.Prelude.{◌≡◌, ◌<◌, ◌≤◌, ◌^◌, ℕ, Bool, List, [], ◌∷◌, length, map, slice_get, Some, All}
use Rattle.span_model.specs.Columns.{sets_of}
use Rattle.span_model.specs.Attack.{Product}
use Rattle.linear_view.specs.declared.column.Column.{Column}

-- the rows of a product's operands, each row with one bit for each column
pub record Operands : Type 0 where
  pub left : List (List Bool)
  pub right : List (List Bool)

-- column number c is the one that stands at place c of `columns`
pub record LinearView : Type 0 where
  pub columns : List Column
  pub products : List Operands

-- the rows of the operands as sets of numbered columns
abbrev pub product_of : Operands → Product ℕ
product_of operands = record { left = sets_of operands.left; right = sets_of operands.right }

-- the products of a view, on which attacks are defined
abbrev pub products_of : LinearView → List (Product ℕ)
products_of view = map product_of view.products

-- an operand over so many columns: one row or more, each with a bit for each column
pub record HasRows (columns : ℕ) (rows : List (List Bool)) : Type 0 where
  pub some_row : 0 < length rows
  pub same_columns : All (λ row. length row ≡ columns) rows

-- the left and the right operands of products, put together product by product
abbrev pub operands_of : (left right : List (List (List Bool))) → List Operands
operands_of [] right = []
operands_of (rows ∷ left) [] = []
operands_of (rows ∷ left) (others ∷ right) = record { left = rows; right = others } ∷ operands_of left right

-- the operands of one product over so many columns: one row or more on each side, equally many on both
pub record AreOperands (columns : ℕ) (operands : Operands) : Type 0 where
  pub some_row : 0 < length operands.left
  pub same_rows : length operands.right ≡ length operands.left
  pub left_columns : All (λ row. length row ≡ columns) operands.left
  pub right_columns : All (λ row. length row ≡ columns) operands.right

-- the number and the bit of a column's name fit 32 bits
abbrev pub IsSmallName : Column → Type 0
IsSmallName name = (name.number < 2 ^ 32) × (name.bit < 2 ^ 32)

-- what holds of every view: 1 to 32,768 columns with small and different names, at most 32,768 products
pub record IsView (view : LinearView) : Type 0 where
  pub some_column : 0 < length view.columns
  pub columns_fit : length view.columns ≤ 32768
  pub products_fit : length view.products ≤ 32768
  pub small_names : All IsSmallName view.columns
  pub names_differ : (b c : ℕ) (name : Column) → slice_get view.columns b ≡ Some name → slice_get view.columns c ≡ Some name → b ≡ c
  pub operands : All (AreOperands (length view.columns)) view.products
