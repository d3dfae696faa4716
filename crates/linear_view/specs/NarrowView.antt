-- A view of a core over some of its columns only: those that its operands hold, and maybe more.
use Rattle.std.specs.Prelude.{◌≡◌, true, List, [], ◌∷◌, map, All, Contains}
use Rattle.span_model.specs.Columns.{Columns}
use Rattle.span_model.specs.Attack.{Product}
use Rattle.usuba0.specs.Circuit.{Circuit}
use Rattle.linear_view.specs.declared.column.Column.{Column}
use Rattle.linear_view.specs.Names.{core_columns}
use Rattle.linear_view.specs.Rows.{core_products, operands_over}
use Rattle.linear_view.specs.View.{LinearView}

-- some of the columns, in their order
pub data AreSomeOf : (some all : List Column) → Type 0 where
  none : AreSomeOf [] []
  taken : {column : Column} {some all : List Column} → AreSomeOf some all → AreSomeOf (column ∷ some) (column ∷ all)
  left_out : {column : Column} {some all : List Column} → AreSomeOf some all → AreSomeOf some (column ∷ all)

-- a set holds columns of the list only
abbrev pub HoldsOnly : List Column → Columns Column → Type 0
HoldsOnly columns set = (column : Column) → set column ≡ true → Contains columns column

-- the rows of both operands of a product hold columns of the list only
pub record IsProductOver (columns : List Column) (product : Product Column) : Type 0 where
  pub left : All (HoldsOnly columns) product.left
  pub right : All (HoldsOnly columns) product.right

-- a view of the core over some of its columns, in their order, among which are all that its operands hold
pub record IsNarrowView (core : Circuit) (view : LinearView) : Type 0 where
  pub columns : AreSomeOf view.columns (core_columns core)
  pub products : view.products ≡ map (operands_over view.columns) (core_products core)
  pub held : All (IsProductOver view.columns) (core_products core)
