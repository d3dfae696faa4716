-- What running a plan asks for.
use Rattle.std.specs.Prelude.{◌≡◌, ℕ, ◌≤◌, List, length, IsSome}
use Rattle.usuba_trees.specs.declared.Def.{Def}
use Rattle.usuba_code.specs.CodeLaw.{Each}
use Rattle.usuba_plan.specs.Fit.{inputs_at, AllFit}
use Rattle.usuba_plan.specs.Made.{plan_outcome}
use Rattle.usuba_plan.specs.Room.{plan_room}
use Rattle.usuba_plan.specs.Store.{Store, meanings}
use Rattle.usuba_plan.specs.declared.plans.Plan.{Plan}

-- the definition at a number can be run on these handles: the plans fit, the handles are held and as many as it has inputs, there
-- is room for what is made, and by the plan it makes something of the elements
pub record CanRun {H V : Type 0} (store : Store H V) (defs : List Def) (plans : List Plan) (number : ℕ) (inputs : List H) : Type 0 where
  pub fits : AllFit store.width defs plans
  pub held : Each store.holds inputs
  pub count : length inputs ≡ inputs_at defs number
  pub room : plan_room defs plans number ≤ store.room
  pub makes : IsSome (plan_outcome store.operators defs plans number (meanings store inputs))
