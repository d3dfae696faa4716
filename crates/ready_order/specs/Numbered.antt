-- What is assigned twice, what is never assigned, and what never becomes ready, over numbered cells: the findings of the
-- seventh, eighth and ninth phases of judging as usuba_model's Assignments has them over named cells.
use Rattle.std.specs.Prelude.{◌≡◌, ℕ, zero, suc, ◌+◌, ◌<◌, Bool, true, false, not, ◌&&◌, ◌||◌, nat_eq, if◌then◌else◌, List, [], ◌∷◌, ◌++◌, length, map}
use Rattle.std.specs.List.{list_any, list_all, range_with_len}
use Rattle.tor_edge.specs.declared.place.Place.{Place}
use Rattle.usuba_trees.specs.declared.Decl.{Decl}
use Rattle.usuba_model.specs.Entries.{beginning}
use Rattle.usuba_model.specs.Faults.{Finding}
use Rattle.usuba_model.specs.Shapes.{elements}
use Rattle.usuba_code.specs.declared.operation.Operation.{Operation}
use Rattle.usuba_code.specs.declared.operation.Operation.TheVariants.{Number, Cell, Call, Complement, Combine, Shift, Refresh}
use Rattle.usuba_code.specs.Code.{Assigned, Coded}

-- whether a number is one of some
abbrev pub is_one_of : List ℕ → ℕ → Bool
is_one_of numbers number = list_any (nat_eq number) numbers

-- the numbers of the input cells: the first ones
abbrev pub input_numbers : ℕ → List ℕ
input_numbers inputs = range_with_len 0 inputs

-- the cells of left sides
abbrev pub target_numbers : List Assigned → List ℕ
target_numbers [] = []
target_numbers (target ∷ targets) = target.cells ++ target_numbers targets

-- the cells that an instance assigns
abbrev pub left_numbers : Coded → List ℕ
left_numbers instance = target_numbers instance.targets

-- the cell that an operation reads
abbrev pub number_read : Operation → List ℕ
number_read (Number value) = []
number_read (Cell cell) = cell ∷ []
number_read (Call callee inputs) = []
number_read (Complement elements) = []
number_read (Combine op elements) = []
number_read (Shift kind amount) = []
number_read (Refresh number elements) = []

-- the cells that code reads
abbrev pub numbers_read : List Operation → List ℕ
numbers_read [] = []
numbers_read (operation ∷ code) = number_read operation ++ numbers_read code

-- the left sides of instances, in walk order
abbrev pub all_targets : List Coded → List Assigned
all_targets [] = []
all_targets (instance ∷ instances) = instance.targets ++ all_targets instances

-- the cells that some instance assigns
abbrev pub assigned_numbers : List Coded → List ℕ
assigned_numbers [] = []
assigned_numbers (instance ∷ instances) = left_numbers instance ++ assigned_numbers instances

-- the cells that some instance reads
abbrev pub read_numbers : List Coded → List ℕ
read_numbers [] = []
read_numbers (instance ∷ instances) = numbers_read instance.code ++ read_numbers instances

-- each cell of these instances is below this number
pub record AreBelow (cells : ℕ) (instances : List Coded) : Type 0 where
  pub assigned : (c : ℕ) → is_one_of (assigned_numbers instances) c ≡ true → c < cells
  pub read : (c : ℕ) → is_one_of (read_numbers instances) c ≡ true → c < cells

-- whether one of some cells is among these, or stands twice among the some
abbrev pub holds_number_again : List ℕ → List ℕ → Bool
holds_number_again taken [] = false
holds_number_again taken (cell ∷ rest) = is_one_of taken cell || holds_number_again (cell ∷ taken) rest

-- left sides after these cells: each is at fault where it holds one of them, or holds a cell twice
abbrev pub numbers_again : List ℕ → List Assigned → List Finding
numbers_again taken [] = []
numbers_again taken (target ∷ rest) =
    record { place = target.place; holds = holds_number_again taken target.cells }
    ∷ numbers_again (target.cells ++ taken) rest

-- the left sides in walk order: each is at fault where it holds an input or a cell that was assigned before
abbrev pub twice_numbered : ℕ → List Coded → List Finding
twice_numbered inputs instances = numbers_again (input_numbers inputs) (all_targets instances)

-- whether one of so many cells from the first on is not assigned
abbrev pub lacks_assigned : (ℕ → Bool) → ℕ → ℕ → Bool
lacks_assigned assigned first count = list_any (λ cell. not (assigned cell)) (range_with_len first count)

-- whether one of so many cells from the first on is read and not assigned
abbrev pub lacks_read : (ℕ → Bool) → (ℕ → Bool) → ℕ → ℕ → Bool
lacks_read assigned read first count = list_any (λ cell. read cell && not (assigned cell)) (range_with_len first count)

-- declared outputs, the first of which has its cells from this number on: at fault where an own cell is not assigned
abbrev pub outputs_numbered : (ℕ → Bool) → ℕ → List Decl → List Finding
outputs_numbered assigned first [] = []
outputs_numbered assigned first (declaration ∷ rest) =
    record { place = declaration.name.place; holds = lacks_assigned assigned first (elements declaration) }
    ∷ outputs_numbered assigned (first + elements declaration) rest

-- declared locals: at fault where an own cell is read and not assigned
abbrev pub locals_numbered : (ℕ → Bool) → (ℕ → Bool) → ℕ → List Decl → List Finding
locals_numbered assigned read first [] = []
locals_numbered assigned read first (declaration ∷ rest) =
    record { place = declaration.name.place; holds = lacks_read assigned read first (elements declaration) }
    ∷ locals_numbered assigned read (first + elements declaration) rest

-- whether an instance is ready: all cells that its code reads are among these
abbrev pub is_ready_numbered : List ℕ → Coded → Bool
is_ready_numbered known instance = list_all (is_one_of known) (numbers_read instance.code)

-- the cells that the ready instances assign
abbrev pub numbers_made : List ℕ → List Coded → List ℕ
numbers_made known [] = []
numbers_made known (instance ∷ rest) =
    if is_ready_numbered known instance
    then left_numbers instance ++ numbers_made known rest
    else numbers_made known rest

-- the cells that are known after so many rounds, in each of which the ready instances assign their cells
abbrev pub numbers_after : List Coded → ℕ → List ℕ → List ℕ
numbers_after instances zero known = known
numbers_after instances (suc n) known =
    let before = numbers_after instances n known in numbers_made before instances ++ before

-- where an instance begins: its first left side
abbrev pub first_place : List Assigned → Place
first_place [] = beginning
first_place (target ∷ targets) = target.place

-- an instance: at fault where it is not ready when these cells are known
abbrev pub stuck_finding : List ℕ → Coded → Finding
stuck_finding known instance = record {
  place = first_place instance.targets;
  holds = not (is_ready_numbered known instance);
}

-- the instances in walk order: each is at fault where it is not ready after as many rounds as there are instances
abbrev pub cyclic_numbered : ℕ → List Coded → List Finding
cyclic_numbered inputs instances =
    let known = numbers_after instances (length instances) (input_numbers inputs) in map (stuck_finding known) instances
