-- The numbers of the definitions that code, instances and plans call.
use Rattle.std.specs.Prelude.{ℕ, List, [], ◌∷◌, ◌++◌}
use Rattle.usuba_code.specs.Code.{Coded}
use Rattle.usuba_code.specs.declared.operation.Operation.{Operation}
use Rattle.usuba_code.specs.declared.operation.Operation.TheVariants as make
use Rattle.usuba_plan.specs.declared.plans.Plan.{Plan}
use Rattle.usuba_plan.specs.declared.plans.Plan.TheVariants as plan

-- what an operation calls
abbrev pub called : Operation → List ℕ
called (make.Number value) = []
called (make.Cell cell) = []
called (make.Call callee inputs) = callee ∷ []
called (make.Complement n) = []
called (make.Combine op n) = []
called (make.Shift kind amount) = []
called (make.Refresh k n) = []

-- what code calls
abbrev pub called_in : List Operation → List ℕ
called_in [] = []
called_in (operation ∷ code) = called operation ++ called_in code

-- what instances call
abbrev pub all_called : List Coded → List ℕ
all_called [] = []
all_called (instance ∷ instances) = called_in instance.code ++ all_called instances

-- what a plan calls
abbrev pub called_by : Plan → List ℕ
called_by (plan.Node p) = all_called p.table.done
called_by (plan.Table outputs) = []
called_by plan.Permutation = []
called_by plan.Absent = []
