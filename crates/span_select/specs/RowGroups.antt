-- What is seen of listed groups of rows.
use Rattle.std.specs.Prelude.{ℕ, Bool, List, map}
use Rattle.span_model.specs.Columns.{Columns, sets_of}

-- how many columns the rows have, and the rows of each group
pub record RowGroups : Type 0 where
  pub columns : ℕ
  pub groups : List (List (List Bool))

-- the groups, with their rows as sets of columns
abbrev pub group_sets : RowGroups → List (List (Columns ℕ))
group_sets listed = map sets_of listed.groups
