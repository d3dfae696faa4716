-- Cells, and the cells that a spot picks of its variable.
use Rattle.std.specs.Prelude.{ℕ, ◌+◌, ◌-◌, ◌*◌, Bool, true, false, ◌&&◌, ◌||◌, ◌==◌, nat_le, if◌then◌else◌, List, [], ◌∷◌, ◌++◌, map, reverse, flat_map, Option, Some, None, bytes_eq, ℤ, pos, negsuc}
use Rattle.std.specs.List.{list_any, range_with_len}
use Rattle.usuba_trees.specs.declared.Decl.{Decl}
use Rattle.usuba_trees.specs.declared.Pick.{Pick}
use Rattle.usuba_trees.specs.declared.Pick.TheVariants.{One, Range}
use Rattle.usuba_trees.specs.declared.Spot.{Spot}
use Rattle.usuba_model.specs.Indexes.{Counter, Computed, computed}
use Rattle.usuba_model.specs.Shapes.{sizes, product, elements}

-- a cell: one element of a declared variable, by the variable's name and the element's number
pub record Cell : Type 0 where
  pub name : List ℕ
  pub element : ℕ

-- whether two cells are one
abbrev pub same_cell : Cell → Cell → Bool
same_cell a b = bytes_eq a.name b.name && (a.element == b.element)

-- whether a cell is among some
abbrev pub is_among : List Cell → Cell → Bool
is_among cells cell = list_any (same_cell cell) cells

-- the cells of these elements of a variable
abbrev pub cells_of : List ℕ → List ℕ → List Cell
cells_of name numbers = map (λ number. record { name = name; element = number }) numbers

-- the cells of declared variables, in the order of the declarations
abbrev pub declared_cells : List Decl → List Cell
declared_cells [] = []
declared_cells (declaration ∷ rest) =
    cells_of declaration.name.text (range_with_len 0 (elements declaration)) ++ declared_cells rest

-- the sizes of a declared variable; none where the name is not declared
abbrev pub sizes_of : List Decl → List ℕ → Option (List ℕ)
sizes_of [] name = None
sizes_of (declaration ∷ rest) name =
    if bytes_eq declaration.name.text name then Some (sizes declaration.shape) else sizes_of rest name

-- the numbers from the first to the last, both included, upwards or downwards
abbrev pub from_to : ℕ → ℕ → List ℕ
from_to first last =
    if nat_le first last then range_with_len first (last - first + 1) else reverse (range_with_len last (first - last + 1))

-- the parts between two indexes of which one may have no value, or be negative
abbrev pub parts_between : Option ℤ → Option ℤ → List ℕ
parts_between (Some (pos first)) (Some (pos last)) = from_to first last
parts_between (Some (pos first)) (Some (negsuc last)) = []
parts_between (Some (negsuc first)) last = []
parts_between (Some (pos first)) None = []
parts_between None last = []

-- whether an index is at or above the size or below 0; one without a value is neither
abbrev pub is_outside : ℕ → Option ℤ → Bool
is_outside size (Some (pos index)) = nat_le size index
is_outside size (Some (negsuc index)) = true
is_outside size None = false

-- what a bracket comes to: the parts that it picks, and what befell in its indexes
pub record Picked : Type 0 where
  pub first : Computed
  pub last : Computed

-- what a bracket comes to; an index alone is a range from it to itself
abbrev pub picked : List Counter → Pick → Picked
picked counters (One index) = record { first = computed index counters; last = computed index counters }
picked counters (Range first last) = record { first = computed first counters; last = computed last counters }

-- whether something was divided by zero in a bracket
abbrev pub divides_by_zero : Picked → Bool
divides_by_zero bracket = bracket.first.divided_by_zero || bracket.last.divided_by_zero

-- whether a number of 2^63 or more was met in a bracket
abbrev pub meets_too_big : Picked → Bool
meets_too_big bracket = bracket.first.too_big || bracket.last.too_big

-- whether a bracket picks past a size
abbrev pub picks_outside : ℕ → Picked → Bool
picks_outside size bracket = is_outside size bracket.first.value || is_outside size bracket.last.value

-- whether brackets pick past the sizes of their variable, or are more than these
abbrev pub pick_outside : List ℕ → List Picked → Bool
pick_outside sizes [] = false
pick_outside [] (bracket ∷ brackets) = true
pick_outside (size ∷ sizes) (bracket ∷ brackets) = picks_outside size bracket || pick_outside sizes brackets

-- the parts that the outermost size has where there is no bracket for it: all
abbrev pub all_parts : ℕ → List ℕ
all_parts size = range_with_len 0 size

-- the numbers of the elements that brackets pick of a variable of these sizes, last size fastest; further brackets apply to each
-- picked part, and missing brackets mean all
abbrev pub picked_elements : List ℕ → List Picked → List ℕ
picked_elements [] brackets = 0 ∷ []
picked_elements (size ∷ sizes) [] =
    flat_map (λ part. map (λ element. part * product sizes + element) (picked_elements sizes [])) (all_parts size)
picked_elements (size ∷ sizes) (bracket ∷ brackets) =
    flat_map
    (λ part. map (λ element. part * product sizes + element) (picked_elements sizes brackets))
    (parts_between bracket.first.value bracket.last.value)

-- what a spot comes to: the cells that it picks, and what is at fault with its brackets
pub record SpotRead : Type 0 where
  pub cells : List Cell
  pub divided_by_zero : Bool
  pub index_out : Bool

-- a spot of a variable of these sizes; brackets at fault pick no cells
abbrev pub read_with : List ℕ → List Picked → List ℕ → SpotRead
read_with name brackets sizes =
    let zero_divisor = list_any divides_by_zero brackets in
    let out = list_any meets_too_big brackets || pick_outside sizes brackets in
    record {
      cells = if zero_divisor || out then [] else cells_of name (picked_elements sizes brackets);
      divided_by_zero = zero_divisor;
      index_out = out;
    }

-- the same where the name may not be declared
abbrev pub read_of : List ℕ → List Picked → Option (List ℕ) → SpotRead
read_of name brackets (Some sizes) = read_with name brackets sizes
read_of name brackets None = record { cells = []; divided_by_zero = list_any divides_by_zero brackets; index_out = false }

-- what a spot comes to among declared variables, where the counters of the loops around have these values
abbrev pub spot_read : List Decl → List Counter → Spot → SpotRead
spot_read declared counters spot = read_of spot.name.text (map (picked counters) spot.picks) (sizes_of declared spot.name.text)
