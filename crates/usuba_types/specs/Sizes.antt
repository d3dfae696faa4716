-- The sizes of definitions, by numbers in place of names: of each the operations, and the calls of the longest chain from it. Counts
-- stop at the greatest number of 64 bits.
use Rattle.std.specs.Prelude.{ℕ, ◌+◌, ◌-◌, ◌^◌, min, max, List, [], ◌∷◌, ◌++◌, slice_index_or}
use Rattle.usuba_model.specs.Operations.{Size}
use Rattle.usuba_code.specs.declared.operation.Operation.{Operation}
use Rattle.usuba_code.specs.declared.operation.Operation.TheVariants.{Number, Cell, Call, Complement, Combine, Shift, Refresh}
use Rattle.usuba_code.specs.Code.{Coded}
use Rattle.usuba_types.specs.declared.sizes.CappedSize.{CappedSize}

-- the greatest number of 64 bits
abbrev pub greatest : ℕ
greatest = 2 ^ 64 - 1

-- a size whose counts stop at the greatest number
abbrev pub capped : Size → CappedSize
capped size = record { operations = min size.operations greatest; chain = min size.chain greatest }

-- the size of the definition at a number among those of the earlier ones, in the order of the file; none at all past all
abbrev pub capped_at : List CappedSize → ℕ → CappedSize
capped_at known number = slice_index_or known number (record { operations = 0; chain = 0 })

-- the number of the definition that an operation calls
abbrev pub callee_in : Operation → List ℕ
callee_in (Number value) = []
callee_in (Cell cell) = []
callee_in (Call callee inputs) = callee ∷ []
callee_in (Complement elements) = []
callee_in (Combine op elements) = []
callee_in (Shift kind amount) = []
callee_in (Refresh number elements) = []

-- the numbers of the definitions that code calls, each as often as it is called
abbrev pub callees_in : List Operation → List ℕ
callees_in [] = []
callees_in (operation ∷ code) = callee_in operation ++ callees_in code

-- those that instances call
abbrev pub all_callees : List Coded → List ℕ
all_callees [] = []
all_callees (instance ∷ instances) = callees_in instance.code ++ all_callees instances

-- the operations of all that is called
abbrev pub operations_called : List CappedSize → List ℕ → ℕ
operations_called known [] = 0
operations_called known (number ∷ numbers) = (capped_at known number).operations + operations_called known numbers

-- the calls of the longest chain that one of these calls begins
abbrev pub chain_called : List CappedSize → List ℕ → ℕ
chain_called known [] = 0
chain_called known (number ∷ numbers) = max ((capped_at known number).chain + 1) (chain_called known numbers)

-- the size of a node of so many operations of its own, which calls these definitions
abbrev pub calling_size : List CappedSize → ℕ → List ℕ → CappedSize
calling_size known count callees = record {
  operations = min (count + operations_called known callees) greatest;
  chain = min (chain_called known callees) greatest;
}

-- the size of a node of so many operations of its own and these instances
abbrev pub node_size : List CappedSize → ℕ → List Coded → CappedSize
node_size known count instances = calling_size known count (all_callees instances)
