-- How a span is kept: rows whose greatest columns differ, and a list of these columns, each with the number of its row.
use Rattle.std.specs.Prelude.{◌≡◌, ◌<◌, ◌≤◌, ◌^◌, ℕ, Bool, List, [], length, slice_index_or}
use Rattle.span_model.specs.Columns.{Columns, empty, set_of, sets_of, ◌△◌}
use Rattle.span_model.specs.Span.{difference}
use Rattle.gf2_span.specs.Rows.{IsLast}
use Rattle.gf2_span.specs.declared.span.Lead.{Lead}

-- the lead at a place; past the end one of column 0
abbrev pub lead_at : List Lead → ℕ → Lead
lead_at leads k = slice_index_or leads k (record { column = 0; row = 0 })

-- the leads ascend by their columns
abbrev pub AreAscending : List Lead → Type 0
AreAscending leads = (j k : ℕ) → j < k → k < length leads → (lead_at leads j).column < (lead_at leads k).column

-- the first `most` leads are those below the end
pub record IsSplitAt (leads : List Lead) (most end : ℕ) : Type 0 where
  pub within : most ≤ length leads
  pub below : (k : ℕ) → k < most → (lead_at leads k).column < end
  pub past : (k : ℕ) → most ≤ k → k < length leads → end ≤ (lead_at leads k).column

-- the columns are numbered in 32 bits, and the leads are in ascending order the greatest columns of the rows
pub record IsEchelon (columns : ℕ) (rows : List (List Bool)) (leads : List Lead) : Type 0 where
  pub small : columns < 2 ^ 32
  pub wide : (k : ℕ) → k < length rows → length (slice_index_or rows k []) ≡ columns
  pub many : length leads ≡ length rows
  pub ascending : AreAscending leads
  pub within : (k : ℕ) → k < length leads → (lead_at leads k).row < length rows
  pub led : (k : ℕ) → k < length leads → IsLast (set_of (slice_index_or rows (lead_at leads k).row [])) (lead_at leads k).column
  pub listed : (i : ℕ) → i < length rows → (k : ℕ) × (k < length leads) × ((lead_at leads k).row ≡ i)

-- the column is the greatest one of no row
abbrev pub LeadsNone : List (Columns ℕ) → ℕ → Type 0
LeadsNone rows c = (k : ℕ) → k < length rows → ¬ IsLast (slice_index_or rows k empty) c

-- the row differs by a selection of the rows, and its trace by the same selection of their traces
pub record IsTraced (rows traces : List (List Bool)) (row trace new_row new_trace : List Bool) : Type 0 where
  pub picks : List Bool
  pub row_part : set_of row △ set_of new_row ≡ difference picks (sets_of rows)
  pub trace_part : set_of trace △ set_of new_trace ≡ difference picks (sets_of traces)
