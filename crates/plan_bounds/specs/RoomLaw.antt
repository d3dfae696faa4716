-- The statement of the law that the operations of a judged file bound what its plans make.
use Rattle.std.specs.Prelude.{ℕ, ◌≤◌, List, Option}
use Rattle.usuba_trees.specs.declared.File.{File}
use Rattle.usuba_model.specs.Judging.{IsJudged}
use Rattle.usuba_model.specs.Walk.{most_operations}
use Rattle.usuba_plan.specs.Plans.{IsPlanned}
use Rattle.usuba_plan.specs.Room.{plan_room}
use Rattle.usuba_plan.specs.declared.plans.Plan.{Plan}

-- by its plan the entry of a judged file makes at most as many elements as a program may have operations
abbrev pub PlansHaveRoom : Type 0
PlansHaveRoom = (asked_width : Option ℕ) (asked_entry : Option (List ℕ)) (file : File) (width entry : ℕ)
    → IsJudged asked_width asked_entry file width entry
    → (plans : List Plan) → IsPlanned file.defs plans entry → plan_room file.defs plans entry ≤ most_operations
