-- The statement of the law that the plan of the entry of a judged file makes something, over every kind of element.
use Rattle.std.specs.Prelude.{◌≡◌, ℕ, ◌<◌, List, length, Option, Some, IsSome, slice_get}
use Rattle.usuba_trees.specs.declared.Def.{Def}
use Rattle.usuba_trees.specs.declared.File.{File}
use Rattle.usuba_model.specs.Judging.{IsJudged}
use Rattle.usuba_model.specs.Rounds.{Operators}
use Rattle.usuba_model.specs.Walk.{signature}
use Rattle.usuba_plan.specs.Made.{plan_outcome}
use Rattle.usuba_plan.specs.Plans.{IsPlanned}
use Rattle.usuba_plan.specs.declared.plans.Plan.{Plan}

-- by its plan the entry of a judged file makes something of elements that are as many as its inputs
abbrev pub EntryMakes : Type 0 → Type 0
EntryMakes V = (operators : Operators V) (asked_width : Option ℕ) (asked_entry : Option (List ℕ)) (file : File) (width entry : ℕ)
    → IsJudged asked_width asked_entry file width entry → 0 < width
    → (plans : List Plan) → IsPlanned file.defs plans entry
    → (d : Def) → slice_get file.defs entry ≡ Some d → (elements : List V) → length elements ≡ (signature d).inputs
    → IsSome (plan_outcome operators file.defs plans entry elements)
