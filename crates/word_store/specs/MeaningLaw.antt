-- The statement of the law that a plan makes of words the plain meaning.
use Rattle.std.specs.Prelude.{◌≡◌, ℕ, ◌<◌, List, length, Option, Some, slice_get}
use Rattle.usuba_trees.specs.declared.Def.{Def}
use Rattle.usuba_trees.specs.declared.File.{File}
use Rattle.usuba_model.specs.Judging.{IsJudged}
use Rattle.usuba_model.specs.Meaning.{word_operators, plain_meaning}
use Rattle.usuba_model.specs.Walk.{signature}
use Rattle.usuba_plan.specs.Made.{plan_outcome}
use Rattle.usuba_plan.specs.Plans.{IsPlanned}
use Rattle.usuba_plan.specs.declared.plans.Plan.{Plan}

-- the plan of the entry of a judged file makes of words of B bits for its inputs their plain meaning
abbrev pub PlanGivesMeaning : Type 0
PlanGivesMeaning = (asked_width : Option ℕ) (asked_entry : Option (List ℕ)) (file : File) (width entry : ℕ)
    → IsJudged asked_width asked_entry file width entry → 0 < width
    → (plans : List Plan) → IsPlanned file.defs plans entry
    → (d : Def) → slice_get file.defs entry ≡ Some d → (B : ℕ) (words : List ℕ) → length words ≡ (signature d).inputs
    → plan_outcome (word_operators width B) file.defs plans entry words ≡ plain_meaning width B file entry words
