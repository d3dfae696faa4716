-- What is asked of the numbers in plans, so that they can be run. It says nothing of elements.
use Rattle.std.specs.Prelude.{◌≡◌, ℕ, ◌^◌, ◌<◌, ◌≤◌, List, length, Option, Some, None, slice_get}
use Rattle.usuba_trees.specs.declared.Def.{Def}
use Rattle.usuba_model.specs.Walk.{signature}
use Rattle.usuba_code.specs.Code.{Coded, coded_at}
use Rattle.usuba_code.specs.CodeLaw.{Each}
use Rattle.usuba_code.specs.declared.operation.Operation.{Operation}
use Rattle.usuba_code.specs.declared.operation.Operation.TheVariants as make
use Rattle.ready_order.specs.Numbered.{left_numbers}
use Rattle.usuba_plan.specs.Made.{entries_of}
use Rattle.usuba_plan.specs.declared.plans.NodePlan.{NodePlan}
use Rattle.usuba_plan.specs.declared.plans.Plan.{Plan}
use Rattle.usuba_plan.specs.declared.plans.Plan.TheVariants as plan

-- how many input elements a definition has
abbrev pub inputs_of : Option Def → ℕ
inputs_of (Some d) = (signature d).inputs
inputs_of None = 0

-- how many input elements the definition at a number has
abbrev pub inputs_at : List Def → ℕ → ℕ
inputs_at defs number = inputs_of (slice_get defs number)

-- the numbers of an operation are in their ranges at width w, and arguments are as many as the callee has inputs
abbrev pub OperationFits : ℕ → List Def → Operation → Type 0
OperationFits w defs (make.Number value) = value < 2 ^ w
OperationFits w defs (make.Cell cell) = Unit {0}
OperationFits w defs (make.Call callee inputs) = inputs ≡ inputs_at defs callee
OperationFits w defs (make.Complement n) = Unit {0}
OperationFits w defs (make.Combine op n) = Unit {0}
OperationFits w defs (make.Shift kind amount) = amount < w
OperationFits w defs (make.Refresh k n) = k < 65536

-- the operations of an instance fit, and it assigns only cells below a count
pub record InstanceFits (w : ℕ) (defs : List Def) (cells : ℕ) (instance : Coded) : Type 0 where
  pub code : Each (OperationFits w defs) instance.code
  pub left : Each (λ cell. cell < cells) (left_numbers instance)

-- each number of the order is that of an instance, which fits
pub record NodeFits (w : ℕ) (defs : List Def) (node : NodePlan) : Type 0 where
  pub within : Each (λ k. k < length node.table.done) node.order.items
  pub instances : Each (λ k. InstanceFits w defs node.cells (coded_at node.table.done k)) node.order.items

-- a table has at most 8 inputs and 64 outputs, and an entry below 2^m for each of its inputs' values
pub record TableFits (n m : ℕ) (entries : List ℕ) : Type 0 where
  pub few_inputs : n ≤ 8
  pub few_outputs : m ≤ 64
  pub whole : length entries ≡ 2 ^ n
  pub small : Each (λ entry. entry < 2 ^ m) entries

-- the plan of a definition fits
abbrev pub PlanFits : ℕ → List Def → Plan → Def → Type 0
PlanFits w defs (plan.Node node) d = NodeFits w defs node
PlanFits w defs (plan.Table outputs) d = TableFits (signature d).inputs outputs (entries_of d)
PlanFits w defs plan.Permutation d = Unit {0}
PlanFits w defs plan.Absent d = Unit {0}

-- each plan of the definitions of a file fits
abbrev pub AllFit : ℕ → List Def → List Plan → Type 0
AllFit w defs plans = (number : ℕ) (p : Plan) (d : Def) → slice_get plans number ≡ Some p → slice_get defs number ≡ Some d
    → PlanFits w defs p d
