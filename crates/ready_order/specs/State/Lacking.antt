-- The first declared variable that lacks an assigned cell.
use Rattle.std.specs.Option.{option_or}
use Rattle.std.specs.Prelude.{ℕ, ◌+◌, Bool, true, false, if◌then◌else◌, List, [], ◌∷◌, Option, Some, None}
use Rattle.tor_edge.specs.declared.place.Place.{Place}
use Rattle.usuba_trees.specs.declared.Decl.{Decl}
use Rattle.usuba_trees.specs.declared.Node.{Node}
use Rattle.usuba_model.specs.Shapes.{elements, all_elements}
use Rattle.ready_order.specs.Numbered.{lacks_assigned, lacks_read}
use Rattle.ready_order.specs.Uses.{Used, has_mark}

-- what an output or a local lacks, by its first cell and the count of its cells
abbrev pub lacking : Used → Bool → ℕ → ℕ → Bool
lacking used is_local first count =
    if is_local
    then lacks_read (has_mark used.assigned) (has_mark used.read) first count
    else lacks_assigned (has_mark used.assigned) first count

-- the place of the first declared variable of which this test holds, where the cells of the first begin at this number
abbrev pub place_lacking : (ℕ → ℕ → Bool) → ℕ → List Decl → Option Place
place_lacking test first [] = None
place_lacking test first (d ∷ rest) =
    if test first (elements d) then Some d.name.place else place_lacking test (first + elements d) rest

-- the place of the first output, or else of the first local, that lacks an assigned cell
abbrev pub place_unassigned : Used → Node → Option Place
place_unassigned used node =
    option_or (place_lacking (lacking used false) (all_elements node.inputs) node.outputs)
    (place_lacking (lacking used true) (all_elements node.inputs + all_elements node.outputs) node.locals)
