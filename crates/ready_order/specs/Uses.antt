-- Which cells are assigned and which are read, as marks by number.
use Rattle.std.specs.Prelude.{◌≡◌, ℕ, Bool, false, List, slice_index_or}
use Rattle.usuba_code.specs.Code.{Coded}
use Rattle.ready_order.specs.Numbered.{is_one_of, assigned_numbers, read_numbers}

-- marks of the cells that some instance assigns, and of those that one reads
pub record Used : Type 0 where
  pub assigned : List Bool
  pub read : List Bool

-- whether a cell is marked; none is past all marks
abbrev pub has_mark : List Bool → ℕ → Bool
has_mark marks cell = slice_index_or marks cell false

-- just the cells that these instances assign are marked so, and just those that they read
pub record IsUsedBy (instances : List Coded) (used : Used) : Type 0 where
  pub assigned : has_mark used.assigned ≡ is_one_of (assigned_numbers instances)
  pub read : has_mark used.read ≡ is_one_of (read_numbers instances)
