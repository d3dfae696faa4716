-- The walk through the definitions: a list of steps in walk order, each with its place, what it adds to the count of
-- operations, and its own faults.
use Rattle.std.specs.Prelude.{ℕ, ◌+◌, ◌*◌, ◌^◌, Bool, true, false, not, ◌||◌, ◌==◌, nat_lt, nat_le, if◌then◌else◌, List, [], ◌∷◌, ◌++◌, length, map, flat_map, Option, Some, None, bytes_eq, ℤ, pos, negsuc}
use Rattle.tor_edge.specs.declared.place.Place.{Place}
use Rattle.usuba_trees.specs.declared.BitOp.{BitOp}
use Rattle.usuba_trees.specs.declared.BitOp.TheVariants.{And, Xor, Or}
use Rattle.usuba_trees.specs.declared.Decl.{Decl}
use Rattle.usuba_trees.specs.declared.Def.{Def}
use Rattle.usuba_trees.specs.declared.Def.TheVariants as def
use Rattle.usuba_trees.specs.declared.Equation.{Equation}
use Rattle.usuba_trees.specs.declared.Expr.{Expr, fold-Expr}
use Rattle.usuba_trees.specs.declared.Expr.TheOpen.{Expr-F}
use Rattle.usuba_trees.specs.declared.Grid.{Grid}
use Rattle.usuba_trees.specs.declared.Item.{Item, fold-Item}
use Rattle.usuba_trees.specs.declared.Item.TheOpen.{Item-F}
use Rattle.usuba_trees.specs.declared.Node.{Node}
use Rattle.usuba_trees.specs.declared.ShiftLink.{ShiftLink}
use Rattle.usuba_trees.specs.declared.Spot.{Spot}
use Rattle.usuba_model.specs.declared.fault.FaultKind.{FaultKind}
use Rattle.usuba_model.specs.declared.fault.FaultKind.TheVariants.{ZeroDivisor, IndexOut, ConstTooBig, ShiftTooFar, SizeMismatch, TooManyOps}
use Rattle.usuba_model.specs.Cells.{SpotRead, spot_read}
use Rattle.usuba_model.specs.declared.fault.Fault.{Fault}
use Rattle.usuba_model.specs.Faults.{first_kind, when}
use Rattle.usuba_model.specs.Indexes.{Counter, Computed, computed}
use Rattle.usuba_model.specs.Shapes.{all_elements}
use Rattle.usuba_model.specs.Unrolled.{Expression, cells, number, nothing, joined, call, complement, operation, shift, refresh, joined_all, natural, counter_values, declarations, targets_of, target_cells}

-- the most operations that a count may reach
abbrev pub most_operations : ℕ
most_operations = 4194304

-- a step of the walk: where it stands, what it adds to the count, and its own first fault
pub record Step : Type 0 where
  pub place : Place
  pub adds : ℕ
  pub fault : Option FaultKind

-- a definition as calls see it: its name, and how many elements it takes and gives
pub record Signature : Type 0 where
  pub name : List ℕ
  pub inputs : ℕ
  pub outputs : ℕ

-- what calls see of a definition
abbrev pub signature : Def → Signature
signature (def.Node node) = record {
  name = node.name.text;
  inputs = all_elements node.inputs;
  outputs = all_elements node.outputs;
}
signature (def.Table grid) = record {
  name = grid.name.text;
  inputs = all_elements grid.inputs;
  outputs = all_elements grid.outputs;
}
signature (def.Perm grid) = record {
  name = grid.name.text;
  inputs = all_elements grid.inputs;
  outputs = all_elements grid.outputs;
}

-- the definition of a name among some; one that takes and gives nothing where there is none
abbrev pub signature_of : List Signature → List ℕ → Signature
signature_of [] name = record { name = name; inputs = 0; outputs = 0 }
signature_of (s ∷ signatures) name = if bytes_eq s.name name then s else signature_of signatures name

-- how many elements the value of an expression has; the operands of an operator are equally many
abbrev pub size_of : List Signature → Expression → ℕ
size_of signatures (number value) = 1
size_of signatures (cells read) = length read
size_of signatures nothing = 0
size_of signatures (joined a b) = size_of signatures a + size_of signatures b
size_of signatures (call name args) = (signature_of signatures name).outputs
size_of signatures (complement a) = size_of signatures a
size_of signatures (operation op a b) = size_of signatures a
size_of signatures (shift kind amount a) = 1
size_of signatures (refresh k a) = size_of signatures a

-- what a computed index has at fault, whatever it is for
abbrev pub computing_fault : Computed → Option FaultKind
computing_fault c = first_kind (when c.divided_by_zero ZeroDivisor) (when c.too_big IndexOut)

-- the step of a spot, at its name
abbrev pub spot_step : Place → SpotRead → Step
spot_step place read = record {
  place = place;
  adds = length read.cells;
  fault = first_kind (when read.divided_by_zero ZeroDivisor) (when read.index_out IndexOut);
}

-- whether a whole number is below 0 or at or above a bound
abbrev pub is_beyond : ℕ → Option ℤ → Bool
is_beyond bound (Some (pos n)) = nat_le bound n
is_beyond bound (Some (negsuc n)) = true
is_beyond bound None = false

-- the step of a number at width w
abbrev pub number_step : ℕ → Place → ℕ → Step
number_step w place value = record { place = place; adds = 1; fault = when (nat_le (2 ^ w) value) ConstTooBig }

-- the step of a call, at the name: its arguments are to fit the inputs
abbrev pub call_step : Place → Signature → ℕ → Step
call_step place s given = record { place = place; adds = s.outputs; fault = when (not (s.inputs == given)) SizeMismatch }

-- what an operator adds for each element
abbrev pub weight : BitOp → ℕ
weight And = 1
weight Xor = 1
weight Or = 4

-- the step of an operator on two values, at its sign
abbrev pub operator_step : BitOp → Place → ℕ → ℕ → Step
operator_step op place left right = record {
  place = place;
  adds = weight op * left;
  fault = when (not (left == right)) SizeMismatch;
}

-- the step of a shift at width w, at its sign: its operand is one element
abbrev pub shift_step : ℕ → Place → ℕ → Computed → Step
shift_step w place size amount = record {
  place = place;
  adds = 1;
  fault = first_kind (when (not (size == 1)) SizeMismatch)
      (first_kind (computing_fault amount) (when (is_beyond w amount.value) ShiftTooFar));
}

-- the step of a refresh, at its word: its number is at most 65,535
abbrev pub refresh_step : Place → ℕ → Computed → Step
refresh_step place size k = record {
  place = place;
  adds = size;
  fault = first_kind (computing_fault k) (when (is_beyond 65536 k.value) IndexOut);
}

-- what an expression is unrolled to, and the steps of its walk
pub record Walked : Type 0 where
  pub is : Expression
  pub steps : List Step

-- the same for each value of the counters around it
abbrev pub Walk : Type 0
Walk = List Counter → Walked

-- a further operand of a chain, with the place of the sign before it
pub record WalkedLink : Type 0 where
  pub place : Place
  pub operand : Walk

-- each of some expressions for these values of the counters
abbrev pub walked_at : List Counter → List Walk → List Walked
walked_at counters parts = map (λ part. part counters) parts

-- values one after another: each part is walked, in order
abbrev pub walked_parts : List Walked → Walked
walked_parts parts = record { is = joined_all (map (λ part. part.is) parts); steps = flat_map (λ part. part.steps) parts }

-- a call: its arguments, then the call itself
abbrev pub walked_call : List Signature → List ℕ → Place → Walked → Walked
walked_call signatures name place args = record {
  is = call name args.is;
  steps = args.steps ++ call_step place (signature_of signatures name) (size_of signatures args.is) ∷ [];
}

-- a complement: its operand, then the sign
abbrev pub walked_complement : List Signature → Place → Walked → Walked
walked_complement signatures place inner = record {
  is = complement inner.is;
  steps = inner.steps ++ record { place = place; adds = size_of signatures inner.is; fault = None } ∷ [];
}

-- one operator of a chain: the operands so far, the further operand, then the sign
abbrev pub walked_operation : List Signature → BitOp → Walked → Place → Walked → Walked
walked_operation signatures op left place right = record {
  is = operation op left.is right.is;
  steps = left.steps ++ right.steps
      ++ operator_step op place (size_of signatures left.is) (size_of signatures right.is) ∷ [];
}

-- a chain of operands, from left to right
abbrev pub walked_chain : List Signature → List Counter → BitOp → Walked → List WalkedLink → Walked
walked_chain signatures counters op first [] = first
walked_chain signatures counters op first (next ∷ rest) =
    walked_chain signatures counters op (walked_operation signatures op first next.place (next.operand counters)) rest

-- one shift: its operand, then the sign
abbrev pub walked_shift : ℕ → List Signature → List Counter → Walked → ShiftLink → Walked
walked_shift w signatures counters operand move = record {
  is = shift move.kind (natural (computed move.amount counters).value) operand.is;
  steps = operand.steps
      ++ shift_step w move.place (size_of signatures operand.is) (computed move.amount counters) ∷ [];
}

-- shifts one after another
abbrev pub walked_shifts : ℕ → List Signature → List Counter → Walked → List ShiftLink → Walked
walked_shifts w signatures counters first [] = first
walked_shifts w signatures counters first (move ∷ moves) =
    walked_shifts w signatures counters (walked_shift w signatures counters first move) moves

-- a refresh: its operand, then the word
abbrev pub walked_refresh : List Signature → Place → Walked → Computed → Walked
walked_refresh signatures place inner k = record {
  is = refresh (natural k.value) inner.is;
  steps = inner.steps ++ refresh_step place (size_of signatures inner.is) k ∷ [];
}

-- one level of an expression at width w among these declarations and earlier definitions
abbrev pub walk_level : ℕ → List Signature → List Decl → Expr-F Walk WalkedLink → Walk
walk_level w signatures declared (Expr-F.Number place value) counters = record {
  is = number value;
  steps = number_step w place value ∷ [];
}
walk_level w signatures declared (Expr-F.Spot spot) counters =
    let read = spot_read declared counters spot in
    record { is = cells read.cells; steps = spot_step spot.name.place read ∷ [] }
walk_level w signatures declared (Expr-F.Tuple parts) counters = walked_parts (walked_at counters parts)
walk_level w signatures declared (Expr-F.Call name args) counters =
    walked_call signatures name.text name.place (walked_parts (walked_at counters args))
walk_level w signatures declared (Expr-F.Not place inner) counters = walked_complement signatures place (inner counters)
walk_level w signatures declared (Expr-F.Chain op first rest) counters =
    walked_chain signatures counters op (first counters) rest
walk_level w signatures declared (Expr-F.Shift first moves) counters =
    walked_shifts w signatures counters (first counters) moves
walk_level w signatures declared (Expr-F.Refresh place inner k) counters =
    walked_refresh signatures place (inner counters) (computed k counters)

-- the walk through an expression
abbrev pub walk_of : ℕ → List Signature → List Decl → Expr → Walk
walk_of w signatures declared =
    fold-Expr Walk WalkedLink (walk_level w signatures declared) (λ link. record { place = link.place; operand = link.operand })

-- the steps of the left sides of an equation
abbrev pub left_steps : List Decl → List Counter → List Spot → List Step
left_steps declared counters spots = map (λ spot. spot_step spot.name.place (spot_read declared counters spot)) spots

-- where an equation begins: the first name of its left side
abbrev pub first_name : Place → List Spot → Place
first_name otherwise [] = otherwise
first_name otherwise (spot ∷ spots) = spot.name.place

-- the steps of an equation instance: itself, its left sides, its right side, and last the sign `=`
abbrev pub equation_steps : ℕ → List Signature → List Decl → List Counter → Equation → List Step
equation_steps w signatures declared counters equation =
    let right = walk_of w signatures declared equation.right counters in
    let size = length (target_cells (targets_of declared counters equation.left)) in
    record { place = first_name equation.equal equation.left; adds = 1; fault = None } ∷
    left_steps declared counters equation.left ++ right.steps
    ++ record { place = equation.equal; adds = 0; fault = when (not (size == size_of signatures right.is)) SizeMismatch } ∷ []

-- steps for each value of the counters around them
abbrev pub Steps : Type 0
Steps = List Counter → List Step

-- the steps of items, in text order
abbrev pub steps_of_each : List Steps → Steps
steps_of_each [] counters = []
steps_of_each (item ∷ items) counters = item counters ++ steps_of_each items counters

-- the step of a loop's bounds, at its word
abbrev pub bounds_step : Place → Computed → Computed → Step
bounds_step place low high = record {
  place = place;
  adds = 0;
  fault = first_kind (when (low.divided_by_zero || high.divided_by_zero) ZeroDivisor) (when (low.too_big || high.too_big) IndexOut);
}

-- the steps of the instances of a loop: each adds 1, and then its items are walked
abbrev pub instance_steps : Place → List ℕ → List ℤ → Steps → Steps
instance_steps place name values items counters =
    flat_map (λ value. record { place = place; adds = 1; fault = None } ∷ items (record { name = name; value = value } ∷ counters)) values

-- one level of an item
abbrev pub item_steps_level : ℕ → List Signature → List Decl → Item-F Steps Steps → Steps
item_steps_level w signatures declared (Item-F.Equation equation) counters = equation_steps w signatures declared counters equation
item_steps_level w signatures declared (Item-F.Loop steps) counters = steps counters

-- the steps of an item
abbrev pub item_steps : ℕ → List Signature → List Decl → Item → Steps
item_steps w signatures declared = fold-Item Steps Steps (item_steps_level w signatures declared)
    (λ loop counters.
    bounds_step loop.place (computed loop.low counters) (computed loop.high counters)
    ∷ instance_steps loop.place loop.counter.text (counter_values counters loop.low loop.high) (steps_of_each loop.items) counters)

-- the step of the cells that a definition declares, at its name
abbrev pub declared_step : Place → List Decl → Step
declared_step place declared = record { place = place; adds = all_elements declared; fault = None }

-- the steps of a table or a permutation: its cells alone
abbrev pub grid_steps : Grid → List Step
grid_steps grid = declared_step grid.name.place (grid.inputs ++ grid.outputs) ∷ []

-- the steps of a node: its cells, then its items
abbrev pub node_steps : ℕ → List Signature → Node → List Step
node_steps w signatures node =
    declared_step node.name.place (declarations node)
    ∷ steps_of_each (map (item_steps w signatures (declarations node)) node.items) []

-- the steps of a definition after these earlier ones
abbrev pub definition_steps : ℕ → List Signature → Def → List Step
definition_steps w signatures (def.Node node) = node_steps w signatures node
definition_steps w signatures (def.Table grid) = grid_steps grid
definition_steps w signatures (def.Perm grid) = grid_steps grid

-- the first fault at a step or after it
abbrev pub step_fault : Place → Option FaultKind → ℕ → Option Fault → Option Fault
step_fault place (Some kind) count later = Some (record { kind = kind; place = place })
step_fault place None count later =
    if nat_lt most_operations count then Some (record { kind = TooManyOps; place = place }) else later

-- the first fault of a walk that goes on from a count: at each step its own faults come first, and then that the count passes
-- its limit
abbrev pub walk_fault : ℕ → List Step → Option Fault
walk_fault count [] = None
walk_fault count (step ∷ steps) = step_fault step.place step.fault (count + step.adds) (walk_fault (count + step.adds) steps)

-- the count after a walk
abbrev pub count_of : List Step → ℕ
count_of [] = 0
count_of (step ∷ steps) = step.adds + count_of steps
