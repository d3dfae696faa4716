-- What is assigned twice, what is never assigned, and what never becomes ready: the seventh, eighth and ninth phases of judging.
use Rattle.std.specs.Prelude.{ℕ, zero, suc, Bool, false, not, ◌&&◌, ◌||◌, if◌then◌else◌, List, [], ◌∷◌, ◌++◌, length, map, flat_map, Option}
use Rattle.std.specs.List.{list_any, list_all, range_with_len}
use Rattle.tor_edge.specs.declared.place.Place.{Place}
use Rattle.usuba_trees.specs.declared.Decl.{Decl}
use Rattle.usuba_trees.specs.declared.Def.{Def}
use Rattle.usuba_trees.specs.declared.Def.TheVariants as def
use Rattle.usuba_trees.specs.declared.Node.{Node}
use Rattle.usuba_model.specs.declared.fault.FaultKind.TheVariants.{AssignedTwice, Unassigned, Cyclic}
use Rattle.usuba_model.specs.Cells.{Cell, is_among, cells_of, declared_cells}
use Rattle.usuba_model.specs.Entries.{beginning}
use Rattle.usuba_model.specs.declared.fault.Fault.{Fault}
use Rattle.usuba_model.specs.Faults.{Finding, first_of}
use Rattle.usuba_model.specs.Shapes.{elements}
use Rattle.usuba_model.specs.Unrolled.{Expression, cells, number, nothing, joined, call, complement, operation, shift, refresh, Target, Instance, left_cells, unrolled}

-- whether one of some cells is among these, or stands twice among the some
abbrev pub holds_again : List Cell → List Cell → Bool
holds_again taken [] = false
holds_again taken (cell ∷ rest) = is_among taken cell || holds_again (cell ∷ taken) rest

-- left sides after these cells: each is at fault where it holds one of them, or holds a cell twice
abbrev pub assigned_again : List Cell → List Target → List Finding
assigned_again taken [] = []
assigned_again taken (target ∷ rest) =
    record { place = target.name.place; holds = holds_again taken target.cells } ∷ assigned_again (target.cells ++ taken) rest

-- the left sides of a node in walk order: each is at fault where it holds an input's cell or one that was assigned before
abbrev pub twice_in : Node → List Finding
twice_in node = assigned_again (declared_cells node.inputs) (flat_map (λ instance. instance.targets) (unrolled node))

-- the cells that an expression reads
abbrev pub cells_read : Expression → List Cell
cells_read (number value) = []
cells_read (cells read) = read
cells_read nothing = []
cells_read (joined a b) = cells_read a ++ cells_read b
cells_read (call name args) = cells_read args
cells_read (complement a) = cells_read a
cells_read (operation op a b) = cells_read a ++ cells_read b
cells_read (shift kind amount a) = cells_read a
cells_read (refresh k a) = cells_read a

-- the cells that some instance assigns
abbrev pub assigned_cells : List Instance → List Cell
assigned_cells instances = flat_map left_cells instances

-- the cells that some instance reads
abbrev pub read_cells : List Instance → List Cell
read_cells instances = flat_map (λ instance. cells_read instance.right) instances

-- the cells of a declared variable
abbrev pub variable_cells : Decl → List Cell
variable_cells declaration = cells_of declaration.name.text (range_with_len 0 (elements declaration))

-- a declared output: at fault where an own cell is not assigned
abbrev pub output_finding : List Cell → Decl → Finding
output_finding assigned declaration = record {
  place = declaration.name.place;
  holds = list_any (λ cell. not (is_among assigned cell)) (variable_cells declaration);
}

-- a declared local: at fault where an own cell is read and not assigned
abbrev pub local_finding : List Cell → List Cell → Decl → Finding
local_finding assigned read declaration = record {
  place = declaration.name.place;
  holds = list_any (λ cell. is_among read cell && not (is_among assigned cell)) (variable_cells declaration);
}

-- the outputs and locals of a node, in text order
abbrev pub unassigned_in : Node → List Finding
unassigned_in node =
    let assigned = assigned_cells (unrolled node) in
    map (output_finding assigned) node.outputs ++ map (local_finding assigned (read_cells (unrolled node))) node.locals

-- whether an instance is ready: all cells that its right side reads are among these
abbrev pub is_ready : List Cell → Instance → Bool
is_ready known instance = list_all (is_among known) (cells_read instance.right)

-- the cells that the ready instances assign
abbrev pub made_ready : List Cell → List Instance → List Cell
made_ready known [] = []
made_ready known (instance ∷ rest) =
    if is_ready known instance then left_cells instance ++ made_ready known rest else made_ready known rest

-- the cells that are known after so many rounds, in each of which the ready instances assign their cells
abbrev pub known_after : List Instance → ℕ → List Cell → List Cell
known_after instances zero known = known
known_after instances (suc n) known = let before = known_after instances n known in made_ready before instances ++ before

-- where an instance begins: the first name of its left side
abbrev pub first_target : List Target → Place
first_target [] = beginning
first_target (target ∷ targets) = target.name.place

-- the instances of a node in walk order: each is at fault where it is not ready after as many rounds as there are instances
abbrev pub cyclic_in : Node → List Finding
cyclic_in node =
    let instances = unrolled node in
    let known = known_after instances (length instances) (declared_cells node.inputs) in
    map (λ instance. record { place = first_target instance.targets; holds = not (is_ready known instance) }) instances

-- the findings of the nodes of a file, in text order
abbrev pub of_nodes : (Node → List Finding) → List Def → List Finding
of_nodes findings [] = []
of_nodes findings (def.Node node ∷ rest) = findings node ++ of_nodes findings rest
of_nodes findings (def.Table grid ∷ rest) = of_nodes findings rest
of_nodes findings (def.Perm grid ∷ rest) = of_nodes findings rest

-- a cell is assigned twice
abbrev pub twice_fault : List Def → Option Fault
twice_fault defs = first_of AssignedTwice (of_nodes twice_in defs)

-- a declared variable is never assigned
abbrev pub unassigned_fault : List Def → Option Fault
unassigned_fault defs = first_of Unassigned (of_nodes unassigned_in defs)

-- an equation instance never becomes ready
abbrev pub cyclic_fault : List Def → Option Fault
cyclic_fault defs = first_of Cyclic (of_nodes cyclic_in defs)
