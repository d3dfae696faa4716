-- Brackets as the model of sources sees them.
use Rattle.std.specs.Prelude.{ℕ, Bool, true, ◌||◌, if◌then◌else◌, List, [], map, Option, Some, None}
use Rattle.std.specs.List.{list_any}
use Rattle.usuba_trees.specs.declared.Pick.{Pick}
use Rattle.usuba_cells.specs.declared.brackets.Bracket.{Bracket}
use Rattle.usuba_cells.specs.declared.computing.Counter.{Counter}
use Rattle.usuba_model.specs.Cells as model
use Rattle.usuba_cells.specs.Counters.{around, computed_of}

-- what a bracket came to
abbrev pub picked_of : Bracket → model.Picked
picked_of bracket = record { first = computed_of bracket.first; last = computed_of bracket.last }

-- what brackets come to
abbrev pub brackets : List Counter → List Pick → List model.Picked
brackets counters picks = map (model.picked (around counters)) picks

-- whether a bracket picks past the size of its level, or there is no such level
abbrev pub picks_outside_of : Option ℕ → model.Picked → Bool
picks_outside_of (Some size) bracket = model.picks_outside size bracket
picks_outside_of None bracket = true

-- the numbers of the elements that brackets pick of a variable; brackets at fault pick none
abbrev pub picked_numbers : List ℕ → List model.Picked → List ℕ
picked_numbers sizes brackets =
    if list_any model.divides_by_zero brackets || (list_any model.meets_too_big brackets || model.pick_outside sizes brackets)
    then []
    else model.picked_elements sizes brackets
