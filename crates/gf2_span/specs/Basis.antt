-- What is seen of a span.
use Rattle.std.specs.Prelude.{ℕ, Bool, List}
use Rattle.span_model.specs.Columns.{Columns, sets_of}

-- how many columns the rows of a span have, and rows that span it
pub record Basis : Type 0 where
  pub columns : ℕ
  pub rows : List (List Bool)

-- the rows as sets of columns
abbrev pub row_sets : Basis → List (Columns ℕ)
row_sets basis = sets_of basis.rows
