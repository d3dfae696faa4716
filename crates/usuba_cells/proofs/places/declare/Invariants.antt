use Rattle.std.proofs.Common.{◌≡◌, ℕ, ◌+◌, List, drop}
use Rattle.std.specs.Option.{option_or}
use Rattle.usuba_model.specs.Shapes.{all_elements}
use Rattle.usuba_cells.specs.State.Places.{place_at, place_in}
use Rattle.usuba_cells.proofs.places.declare.Given as goal

abbrev pub invariant-loop-declaration : goal.invariant-loop-declaration
invariant-loop-declaration l =
    (l.next + all_elements (drop l.declaration-index l.declarations) ≡ l.first + all_elements l.declarations)
    × ((name : List ℕ) → option_or (place_at l.places name) (place_in l.next (drop l.declaration-index l.declarations) name)
    ≡ option_or (place_at l.fn.places name) (place_in l.first l.declarations name))
