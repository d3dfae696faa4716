-- Numbers in place of names: of cells, and of the definitions that are called; the cells and the names for which they are without
-- doubt.
use Rattle.std.specs.Prelude.{◌≡◌, ℕ, ◌+◌, Bool, false, nat_lt, if◌then◌else◌, List, [], ◌∷◌, length, bytes_eq}
use Rattle.usuba_trees.specs.declared.Decl.{Decl}
use Rattle.usuba_model.specs.Cells.{Cell}
use Rattle.usuba_model.specs.Names.{is_name_among, names_of}
use Rattle.usuba_model.specs.Shapes.{elements}
use Rattle.usuba_model.specs.Walk.{Signature}

-- the number of a cell: the declared variables in order, the elements of each in order; a cell of no declared name counts on
-- past all of these
abbrev pub cell_number : List Decl → Cell → ℕ
cell_number [] cell = cell.element
cell_number (declaration ∷ rest) cell =
    if bytes_eq declaration.name.text cell.name then cell.element else elements declaration + cell_number rest cell

-- whether a cell is one of the first declared variable of its name
abbrev pub is_declared : List Decl → Cell → Bool
is_declared [] cell = false
is_declared (d ∷ rest) cell = if bytes_eq d.name.text cell.name then nat_lt cell.element (elements d) else is_declared rest cell

-- no declared name stands twice
abbrev pub AreDistinct : List Decl → Type 0
AreDistinct [] = Unit {0}
AreDistinct (d ∷ rest) = (is_name_among (names_of rest) d.name.text ≡ false) × AreDistinct rest

-- the number of the definition of a name among some, the latest first: its place in the file, from 0; 0 where there is none
abbrev pub callee_number : List Signature → List ℕ → ℕ
callee_number [] name = 0
callee_number (s ∷ earlier) name = if bytes_eq s.name name then length earlier else callee_number earlier name
