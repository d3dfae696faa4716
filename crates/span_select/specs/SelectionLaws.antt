-- The laws of selections, for sets of columns of any kind.
use Rattle.std.specs.Prelude.{◌≡◌, ◌<◌, Bool, List, [], ◌++◌, length, map, slice_index_or, All}
use Rattle.std.specs.List.Sorted.{IsStrictlyIncreasing}
use Rattle.span_model.specs.Columns.{Columns}
use Rattle.span_model.specs.Span.{InSpan}
use Rattle.span_select.specs.Selection.{rows_of, chosen_rows, IsLeastSelection, numbers_of}

-- there is at most one least selection, and what a selection spans, all the groups span
pub record LeastSelections (C : Type 0) : Type 0 where
  pub one : (own : List (Columns C)) (groups : List (List (Columns C))) (v : Columns C) (a b : List Bool)
      → IsLeastSelection own groups v a → IsLeastSelection own groups v b → a ≡ b
  pub less : (own : List (Columns C)) (groups : List (List (Columns C))) (v : Columns C) (picks : List Bool)
      → InSpan (own ++ chosen_rows picks groups) v → InSpan (own ++ rows_of groups) v

-- the numbers of the picked groups rise and are below the count of the groups, and the groups with these numbers have the rows that are picked
pub record PickedNumbers (C : Type 0) : Type 0 where
  pub rising : (picks : List Bool) → IsStrictlyIncreasing (numbers_of picks)
  pub within : (picks : List Bool) → All (λ k. k < length picks) (numbers_of picks)
  pub rows : (picks : List Bool) (groups : List (List (Columns C))) → length picks ≡ length groups
      → rows_of (map (λ k. slice_index_or groups k []) (numbers_of picks)) ≡ chosen_rows picks groups
