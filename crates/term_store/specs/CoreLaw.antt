-- The statement of the law that the core of what a plan makes is the core of the source.
use Rattle.std.specs.Prelude.{◌≡◌, ℕ, ◌<◌, List, Option}
use Rattle.usuba_trees.specs.declared.File.{File}
use Rattle.usuba_model.specs.Judging.{IsJudged}
use Rattle.usuba_plan.specs.Plans.{IsPlanned}
use Rattle.usuba_plan.specs.declared.plans.Plan.{Plan}
use Rattle.source_terms.specs.SourceTerms.{inputs_of, source_terms, core_of_source}
use Rattle.term_store.specs.PlanCore.{plan_terms, plan_core}

-- of a judged file and its plans: the terms that the entry makes by its plan are those of the source, and so is their core
abbrev pub PlanCoreIsTheSources : Type 0
PlanCoreIsTheSources = (asked_width : Option ℕ) (asked_entry : Option (List ℕ)) (file : File) (width entry : ℕ)
    → IsJudged asked_width asked_entry file width entry → 0 < width → (plans : List Plan) → IsPlanned file.defs plans entry
    → (plan_terms width file.defs plans entry (inputs_of file.defs entry) ≡ source_terms width file entry)
    × (plan_core width file.defs plans entry (inputs_of file.defs entry) ≡ core_of_source width file entry)
