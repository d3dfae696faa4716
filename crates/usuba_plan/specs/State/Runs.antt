-- What the parts of a run ask for.
use Rattle.std.specs.Prelude.{◌≡◌, ℕ, ◌≤◌, List, Option, IsSome}
use Rattle.usuba_trees.specs.declared.Def.{Def}
use Rattle.usuba_code.specs.declared.operation.Operation.{Operation}
use Rattle.usuba_code.specs.CodeLaw.{Each}
use Rattle.usuba_code.specs.Machine.{with_answer, run_operation, run_code}
use Rattle.usuba_plan.specs.Fit.{inputs_at, OperationFits, NodeFits, AllFit}
use Rattle.usuba_plan.specs.Made.{made_by_node, made_below, plan_outcome}
use Rattle.usuba_plan.specs.Room.{operation_room, code_room, order_room, room_below, plan_room}
use Rattle.usuba_plan.specs.State.Handles.{environment_of, CellsHeld}
use Rattle.usuba_plan.specs.Store.{Store, meanings}
use Rattle.usuba_plan.specs.declared.plans.NodePlan.{NodePlan}
use Rattle.usuba_plan.specs.declared.plans.Plan.{Plan}

-- the plan of a node, which is the definition at a number, can be run on these handles
pub record CanRunNode {H V : Type 0} (store : Store H V) (defs : List Def) (plans : List Plan) (number : ℕ) (node : NodePlan) (inputs : List H) : Type 0 where
  pub fits : AllFit store.width defs plans
  pub node_fits : NodeFits store.width defs node
  pub held : Each store.holds inputs
  pub room : order_room (room_below defs plans number) node.table.done node.order.items ≤ store.room
  pub makes : IsSome (made_by_node store.operators (made_below store.operators defs plans number) node (meanings store inputs))

-- code of the definition at a number can be run, over cells and on a stack
pub record CanRunCode {H V : Type 0} (store : Store H V) (defs : List Def) (plans : List Plan) (number : ℕ) (code : List Operation) (cells : List (Option H)) (stack : List H) : Type 0 where
  pub fits : AllFit store.width defs plans
  pub code_fits : Each (OperationFits store.width defs) code
  pub cells_held : CellsHeld store cells
  pub held : Each store.holds stack
  pub room : code_room (room_below defs plans number) code ≤ store.room
  pub makes : IsSome (run_code store.operators (made_below store.operators defs plans number) (environment_of store cells) code (meanings store stack))

-- one operation of the definition at a number can be run
pub record CanRunOperation {H V : Type 0} (store : Store H V) (defs : List Def) (plans : List Plan) (number : ℕ) (operation : Operation) (cells : List (Option H)) (stack : List H) : Type 0 where
  pub fits : AllFit store.width defs plans
  pub operation_fits : OperationFits store.width defs operation
  pub cells_held : CellsHeld store cells
  pub held : Each store.holds stack
  pub room : operation_room (room_below defs plans number) operation ≤ store.room
  pub makes : IsSome (run_operation store.operators (made_below store.operators defs plans number) (environment_of store cells) operation (meanings store stack))

-- the definition at a number can be called with the last so many handles of a stack
pub record CanCall {H V : Type 0} (store : Store H V) (defs : List Def) (plans : List Plan) (callee inputs : ℕ) (stack : List H) : Type 0 where
  pub fits : AllFit store.width defs plans
  pub count : inputs ≡ inputs_at defs callee
  pub held : Each store.holds stack
  pub room : plan_room defs plans callee ≤ store.room
  pub makes : IsSome (with_answer inputs (plan_outcome store.operators defs plans callee) (meanings store stack))
