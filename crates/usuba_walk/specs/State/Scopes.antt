-- What the walk makes of the parts of a node, where the counters of the loops around have some values.
use Rattle.std.specs.Prelude.{ℕ, ℤ, List, ◌∷◌, map, None}
use Rattle.usuba_trees.specs.declared.BitOp.{BitOp}
use Rattle.usuba_trees.specs.declared.Equation.{Equation}
use Rattle.usuba_trees.specs.declared.Expr.{Expr}
use Rattle.usuba_trees.specs.declared.Item.{Item}
use Rattle.usuba_trees.specs.declared.Link.{Link}
use Rattle.usuba_trees.specs.declared.Loop.{Loop}
use Rattle.usuba_trees.specs.declared.Spot.{Spot}
use Rattle.usuba_cells.specs.declared.computing.Counter as given
use Rattle.usuba_cells.specs.Counters.{around}
use Rattle.usuba_model.specs.Cells.{SpotRead, spot_read}
use Rattle.usuba_model.specs.Indexes.{computed}
use Rattle.usuba_model.specs.Numbers.{cell_number}
use Rattle.usuba_model.specs.Unrolled.{instance_of, of_each, of_loop, unrolled_item, counter_values}
use Rattle.usuba_model.specs.Walk.{Signature, Step, Walked, walked_at, walked_parts, walk_of, equation_steps, steps_of_each, item_steps, bounds_step, instance_steps}
use Rattle.usuba_code.specs.declared.operation.Operation.{Operation}
use Rattle.usuba_code.specs.Code.{Assigned, Coded, coded}
use Rattle.usuba_walk.specs.declared.progress.Progress.{Progress}
use Rattle.usuba_walk.specs.declared.scope.Scope.{Scope}
use Rattle.usuba_walk.specs.State.Progress.{IsWalked, links_steps, links_code}

-- what calls see of the earlier definitions, the latest first
abbrev pub signatures_in : Scope → List Signature
signatures_in scope = scope.definitions.now

-- the walk through an expression
abbrev pub walked_in : Scope → List given.Counter → Expr → Walked
walked_in scope counters expression = walk_of scope.width scope.definitions.now scope.variables expression (around counters)

-- the walk through expressions one after another
abbrev pub walked_parts_in : Scope → List given.Counter → List Expr → Walked
walked_parts_in scope counters parts =
    walked_parts (walked_at (around counters) (map (walk_of scope.width scope.definitions.now scope.variables) parts))

-- something was walked without a fault, its code was added, and its value has so many elements
abbrev pub IsWalkedIn : Scope → Progress → Progress → ℕ → Walked → Type 0
IsWalkedIn scope before after size walked = IsWalked scope.definitions.now scope.variables before after size walked

-- the steps of the further operands of a chain
abbrev pub links_steps_in : Scope → List given.Counter → BitOp → ℕ → List Link → List Step
links_steps_in scope counters op size links =
    links_steps scope.width scope.definitions.now scope.variables (around counters) op size links

-- the code of the further operands of a chain
abbrev pub links_code_in : Scope → List given.Counter → BitOp → ℕ → List Link → List Operation
links_code_in scope counters op size links =
    links_code scope.width scope.definitions.now scope.variables (around counters) op size links

-- what a spot comes to
abbrev pub read_in : Scope → List given.Counter → Spot → SpotRead
read_in scope counters spot = spot_read scope.variables (around counters) spot

-- a left side over numbered cells
abbrev pub target_in : Scope → List given.Counter → Spot → Assigned
target_in scope counters spot =
    record { place = spot.name.place; cells = map (cell_number scope.variables) (spot_read scope.variables (around counters) spot).cells }

-- the steps of an equation
abbrev pub equation_steps_in : Scope → List given.Counter → Equation → List Step
equation_steps_in scope counters equation =
    equation_steps scope.width scope.definitions.now scope.variables (around counters) equation

-- an equation over numbered cells
abbrev pub equation_coded_in : Scope → List given.Counter → Equation → Coded
equation_coded_in scope counters equation =
    coded scope.definitions.now scope.variables (instance_of scope.variables (around counters) equation)

-- the steps of items
abbrev pub items_steps_in : Scope → List given.Counter → List Item → List Step
items_steps_in scope counters items =
    steps_of_each (map (item_steps scope.width scope.definitions.now scope.variables) items) (around counters)

-- the instances of items over numbered cells
abbrev pub items_coded_in : Scope → List given.Counter → List Item → List Coded
items_coded_in scope counters items =
    map (coded scope.definitions.now scope.variables) (of_each (map (unrolled_item scope.variables) items) (around counters))

-- the steps of an item
abbrev pub item_steps_in : Scope → List given.Counter → Item → List Step
item_steps_in scope counters item = item_steps scope.width scope.definitions.now scope.variables item (around counters)

-- the instances of an item over numbered cells
abbrev pub item_coded_in : Scope → List given.Counter → Item → List Coded
item_coded_in scope counters item = map (coded scope.definitions.now scope.variables) (unrolled_item scope.variables item (around counters))

-- the steps of the instances of a loop for some values of its counter
abbrev pub instance_steps_in : Scope → List given.Counter → Loop → List ℤ → List Step
instance_steps_in scope counters repeated values =
    instance_steps repeated.place repeated.counter.text values
    (steps_of_each (map (item_steps scope.width scope.definitions.now scope.variables) repeated.items)) (around counters)

-- the instances of a loop for some values of its counter, over numbered cells
abbrev pub instances_coded_in : Scope → List given.Counter → Loop → List ℤ → List Coded
instances_coded_in scope counters repeated values =
    map (coded scope.definitions.now scope.variables)
    (of_loop repeated.counter.text values (of_each (map (unrolled_item scope.variables) repeated.items)) (around counters))

-- the steps of the instance of a loop for a value of its counter
abbrev pub one_instance_steps : Scope → List given.Counter → Loop → ℤ → List Step
one_instance_steps scope counters repeated value =
    record { place = repeated.place; adds = 1; fault = None }
    ∷ steps_of_each (map (item_steps scope.width scope.definitions.now scope.variables) repeated.items)
    (record { name = repeated.counter.text; value = value } ∷ around counters)

-- the instances of a loop's items for a value of its counter, over numbered cells
abbrev pub one_instance_coded : Scope → List given.Counter → Loop → ℤ → List Coded
one_instance_coded scope counters repeated value =
    map (coded scope.definitions.now scope.variables)
    (of_each (map (unrolled_item scope.variables) repeated.items) (record { name = repeated.counter.text; value = value } ∷ around counters))

-- the steps of a loop: its bounds, then its instances
abbrev pub loop_steps_in : Scope → List given.Counter → Loop → List Step
loop_steps_in scope counters repeated =
    bounds_step repeated.place (computed repeated.low (around counters)) (computed repeated.high (around counters))
    ∷ instance_steps_in scope counters repeated (counter_values (around counters) repeated.low repeated.high)

-- the instances of a loop over numbered cells
abbrev pub loop_coded_in : Scope → List given.Counter → Loop → List Coded
loop_coded_in scope counters repeated =
    instances_coded_in scope counters repeated (counter_values (around counters) repeated.low repeated.high)
