-- What the private functions of this crate say of each other.
use Rattle.std.specs.Prelude.{◌≡◌, ℕ, ◌+◌, ◌≤◌, List, [], ◌∷◌, ◌++◌, None, Result, Ok, Err, not, ◌==◌}
use Rattle.tor_edge.specs.declared.place.Place.{Place}
use Rattle.usuba_trees.specs.declared.BitOp.{BitOp}
use Rattle.usuba_trees.specs.declared.Decl.{Decl}
use Rattle.usuba_trees.specs.declared.Link.{Link}
use Rattle.usuba_trees.specs.declared.ShiftLink.{ShiftLink}
use Rattle.usuba_model.specs.declared.fault.Fault.{Fault}
use Rattle.usuba_model.specs.declared.fault.FaultKind.TheVariants.{SizeMismatch}
use Rattle.usuba_model.specs.Faults.{when}
use Rattle.usuba_model.specs.Indexes.{Counter, computed}
use Rattle.usuba_model.specs.Unrolled.{natural}
use Rattle.usuba_model.specs.Walk.{Step, Signature, size_of, Walked, operator_step, shift_step, walk_of, walk_fault, count_of}
use Rattle.usuba_code.specs.declared.operation.Operation.{Operation}
use Rattle.usuba_code.specs.declared.operation.Operation.TheVariants as make
use Rattle.usuba_code.specs.Code.{Built, Assigned, Coded, code_of}
use Rattle.usuba_walk.specs.declared.stop.Stop.{Stop}
use Rattle.usuba_walk.specs.declared.stop.Stop.TheVariants as stop
use Rattle.usuba_walk.specs.declared.progress.Progress.{Progress}

-- what holds of the fault that an answer gives
abbrev pub IfFault : {T : Type 0} → Result T Stop → (Fault → Type 0) → Type 0
IfFault (Ok value) P = Unit {0}
IfFault (Err (stop.Fault fault)) P = P fault
IfFault (Err (stop.Memory error)) P = Unit {0}

-- a table with more code
abbrev pub with_code : Built → List Operation → Built
with_code table code = record table { code = table.code ++ code }

-- the code that reads cells of these numbers
abbrev pub cell_code : List ℕ → List Operation
cell_code [] = []
cell_code (cell ∷ cells) = make.Cell cell ∷ cell_code cells

-- a table with more cells of the left side that is read
abbrev pub with_cells : Built → List ℕ → Built
with_cells table cells = record table { cells = table.cells ++ cells }

-- a table with further left sides
abbrev pub with_targets : Built → List Assigned → Built
with_targets table [] = table
with_targets table (target ∷ targets) =
    with_targets
    (record table { targets = table.targets ++ record { place = target.place; cells = table.cells ++ target.cells } ∷ []; cells = [] })
    targets

-- a table whose next instance is whole
abbrev pub with_end : Built → Built
with_end table = record table { done = table.done ++ record { targets = table.targets; code = table.code } ∷ []; targets = []; code = [] }

-- a table with further instances
abbrev pub with_instances : Built → List Coded → Built
with_instances table [] = table
with_instances table (instance ∷ instances) =
    with_instances (with_end (with_code (with_targets table instance.targets) instance.code)) instances

-- steps were walked without a fault, and the table became this
pub record Takes (before after : Progress) (steps : List Step) (built : Built) : Type 0 where
  pub clean : walk_fault before.count steps ≡ None
  pub count : after.count ≡ before.count + count_of steps
  pub table : after.table ≡ built

-- the same with further code, which makes so many elements
pub record Makes (before after : Progress) (size : ℕ) (steps : List Step) (code : List Operation) : Type 0 where
  pub takes : Takes before after steps (with_code before.table code)
  pub few : size + before.count ≤ after.count

-- an expression was walked without a fault: its code was added, and its value has so many elements
pub record IsWalked (signatures : List Signature) (declared : List Decl) (before after : Progress) (made : ℕ) (walked : Walked) : Type 0 where
  pub makes : Makes before after made walked.steps (code_of signatures declared walked.is)
  pub size : made ≡ size_of signatures walked.is

-- the steps of the further operands of a chain whose first has so many elements: of each the operand, then the sign
abbrev pub links_steps : ℕ → List Signature → List Decl → List Counter → BitOp → ℕ → List Link → List Step
links_steps w signatures declared counters op size [] = []
links_steps w signatures declared counters op size (link ∷ links) =
    let operand = walk_of w signatures declared link.operand counters in
    operand.steps ++ operator_step op link.place size (size_of signatures operand.is) ∷ []
    ++ links_steps w signatures declared counters op size links

-- their code
abbrev pub links_code : ℕ → List Signature → List Decl → List Counter → BitOp → ℕ → List Link → List Operation
links_code w signatures declared counters op size [] = []
links_code w signatures declared counters op size (link ∷ links) =
    code_of signatures declared (walk_of w signatures declared link.operand counters).is ++ make.Combine op size ∷ []
    ++ links_code w signatures declared counters op size links

-- the steps of shifts of so many elements; what is shifted is one element
abbrev pub moves_steps : ℕ → List Counter → ℕ → List ShiftLink → List Step
moves_steps w counters size [] = []
moves_steps w counters size (move ∷ moves) =
    shift_step w move.place size (computed move.amount counters) ∷ moves_steps w counters 1 moves

-- their code
abbrev pub moves_code : List Counter → List ShiftLink → List Operation
moves_code counters [] = []
moves_code counters (move ∷ moves) = make.Shift move.kind (natural (computed move.amount counters).value) ∷ moves_code counters moves

-- how many elements something has after shifts
abbrev pub moved_size : ℕ → List ShiftLink → ℕ
moved_size size [] = size
moved_size size (move ∷ moves) = 1

-- a table of these instances and nothing else
abbrev pub with_done : List Coded → Built
with_done instances = record { done = instances; targets = []; cells = []; code = [] }

-- a walk from the beginning passed these steps without a fault, and walked these instances
pub record IsAfter (progress : Progress) (steps : List Step) (instances : List Coded) : Type 0 where
  pub clean : walk_fault 0 steps ≡ None
  pub count : progress.count ≡ count_of steps
  pub table : progress.table ≡ with_done instances

-- the step of the sign `=` between two sides of so many elements
abbrev pub end_step : Place → ℕ → ℕ → Step
end_step equal left right = record { place = equal; adds = 0; fault = when (not (left == right)) SizeMismatch }
