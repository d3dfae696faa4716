-- What a row says of its columns, and rows of their greatest columns.
use Rattle.std.specs.Prelude.{◌≡◌, ◌≢◌, ◌<◌, ◌≤◌, ℕ, true, false, List, length, slice_index_or}
use Rattle.span_model.specs.Columns.{Columns, empty}
use Rattle.span_model.specs.Span.{InSpan}

-- the column is the least one in the set
pub record IsFirst (row : Columns ℕ) (column : ℕ) : Type 0 where
  pub there : row column ≡ true
  pub none_before : (before : ℕ) → before < column → row before ≡ false

-- the column is the least one in the set from this one on
pub record IsFirstFrom (row : Columns ℕ) (start column : ℕ) : Type 0 where
  pub from : start ≤ column
  pub there : row column ≡ true
  pub none_before : (before : ℕ) → start ≤ before → before < column → row before ≡ false

-- the column is the greatest one in the set
pub record IsLast (row : Columns ℕ) (column : ℕ) : Type 0 where
  pub there : row column ≡ true
  pub none_after : (after : ℕ) → column < after → row after ≡ false

-- each row has a greatest column, and no other row has the same one
pub record HaveOwnLeads (rows : List (Columns ℕ)) : Type 0 where
  pub some : (k : ℕ) → k < length rows → (c : ℕ) × IsLast (slice_index_or rows k empty) c
  pub apart : (j k c : ℕ) → j < length rows → k < length rows → IsLast (slice_index_or rows j empty) c → IsLast (slice_index_or rows k empty) c → j ≡ k

-- the set has none of the greatest columns of the rows
abbrev pub HoldsNoLead : List (Columns ℕ) → Columns ℕ → Type 0
HoldsNoLead rows v = (k c : ℕ) → k < length rows → IsLast (slice_index_or rows k empty) c → v c ≡ false

-- the column is the greatest one of no member of the span
abbrev pub LeadsNoMember : List (Columns ℕ) → ℕ → Type 0
LeadsNoMember rows c = (v : Columns ℕ) → InSpan rows v → ¬ IsLast v c

-- of rows whose greatest columns differ, each member of the span that is not empty has the greatest column of one of the rows as its own
abbrev pub LeadsAreKept : Type 0
LeadsAreKept =
    (rows : List (Columns ℕ)) → HaveOwnLeads rows → (v : Columns ℕ) → InSpan rows v → v ≢ empty
    → (k : ℕ) × (c : ℕ) × (k < length rows) × IsLast (slice_index_or rows k empty) c × IsLast v c
