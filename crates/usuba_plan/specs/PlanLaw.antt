-- The statements of the laws of plans: they give what the rounds give, over every kind of element, and they fit.
use Rattle.std.specs.Prelude.{◌≡◌, ℕ, ◌<◌, List, length, reverse, Option, Some, slice_get}
use Rattle.usuba_trees.specs.declared.Def.{Def}
use Rattle.usuba_trees.specs.declared.File.{File}
use Rattle.usuba_model.specs.Judging.{IsJudged, name_at}
use Rattle.usuba_model.specs.Rounds.{Operators, outcomes}
use Rattle.usuba_model.specs.Walk.{signature}
use Rattle.usuba_plan.specs.Fit.{AllFit}
use Rattle.usuba_plan.specs.Made.{plan_outcome}
use Rattle.usuba_plan.specs.Plans.{IsPlanned}
use Rattle.usuba_plan.specs.declared.plans.Plan.{Plan}

-- the plan of the entry of a judged file makes of elements for its inputs what the entry makes of them
abbrev pub PlanGivesOutcome : Type 0 → Type 0
PlanGivesOutcome V = (operators : Operators V) (asked_width : Option ℕ) (asked_entry : Option (List ℕ)) (file : File) (width entry : ℕ)
    → IsJudged asked_width asked_entry file width entry → 0 < width
    → (plans : List Plan) → IsPlanned file.defs plans entry
    → (d : Def) → slice_get file.defs entry ≡ Some d → (elements : List V) → length elements ≡ (signature d).inputs
    → plan_outcome operators file.defs plans entry elements ≡ outcomes operators (reverse file.defs) (name_at file.defs entry) elements

-- the plans of a judged file can be run at its width
abbrev pub PlansFit : Type 0
PlansFit = (asked_width : Option ℕ) (asked_entry : Option (List ℕ)) (file : File) (width entry : ℕ)
    → IsJudged asked_width asked_entry file width entry → 0 < width
    → (plans : List Plan) → IsPlanned file.defs plans entry → AllFit width file.defs plans
