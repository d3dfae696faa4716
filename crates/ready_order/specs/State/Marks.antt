-- Marks by cell, as they are kept and changed one after another.
use Rattle.std.specs.Prelude.{ℕ, Bool, true, false, ◌||◌, if◌then◌else◌, List, [], ◌∷◌, Option, Some, None, slice_index_or, slice_set}
use Rattle.std.specs.List.{list_all}
use Rattle.tor_edge.specs.declared.place.Place.{Place}
use Rattle.usuba_code.specs.declared.operation.Operation.{Operation}
use Rattle.usuba_code.specs.Code.{Assigned}
use Rattle.ready_order.specs.Numbered.{numbers_read}

-- whether a cell is marked; none is past all marks
abbrev pub is_marked : List Bool → ℕ → Bool
is_marked marks cell = slice_index_or marks cell false

-- one more cell is marked
abbrev pub marked : List Bool → ℕ → List Bool
marked marks cell = slice_set marks cell true

-- these cells are marked one after another
abbrev pub all_marked : List Bool → List ℕ → List Bool
all_marked marks [] = marks
all_marked marks (cell ∷ cells) = all_marked (marked marks cell) cells

-- whether one of these cells is marked when its turn comes
abbrev pub has_marked : List Bool → List ℕ → Bool
has_marked marks [] = false
has_marked marks (cell ∷ cells) = is_marked marks cell || has_marked (marked marks cell) cells

-- the place of the first left side that holds a marked cell; the cells of each are marked after it
abbrev pub first_marked : List Bool → List Assigned → Option Place
first_marked marks [] = None
first_marked marks (target ∷ targets) =
    if has_marked marks target.cells then Some target.place else first_marked (all_marked marks target.cells) targets

-- whether code reads marked cells only
abbrev pub reads_marked : List Bool → List Operation → Bool
reads_marked marks code = list_all (is_marked marks) (numbers_read code)
