use Rattle.std.proofs.Common.{◌<◌, List, length, reverse, sym, subst}
use Rattle.usuba_trees.specs.declared.Def.{Def}
use Rattle.usuba_plan.specs.Plans.{IsPlanned}
use Rattle.usuba_plan.specs.declared.plans.Plan.{Plan}
use Rattle.usuba_planner.specs.State.Sound.{AllSound}
use Rattle.usuba_planner.proofs.Sounding.{judged_sound, entry_within}
use Rattle.usuba_planner.proofs.file.plan_file.Goals as goal

pub plan_backwards-requires-clause-sound : goal.plan_backwards-requires-clause-sound
plan_backwards-requires-clause-sound c =
    subst (AllSound c.args.width) (sym c.as_slice.ensures) (judged_sound c.args.file.now c.args.width c.args.entry c.requires)

pub plan_backwards-requires-clause-within : goal.plan_backwards-requires-clause-within
plan_backwards-requires-clause-within c =
    subst (λ (defs : List Def). c.args.entry < length defs) (sym c.as_slice.ensures)
    (entry_within c.args.file.now c.args.width c.args.entry c.requires)

pub returns : goal.returns
returns c =
    subst (λ (plans : List Plan). IsPlanned c.args.file.now.defs plans c.args.entry) (sym c.reverse.ensures.items)
    (subst (λ (defs : List Def). IsPlanned defs (reverse c.in_ok-plans.plans.items) c.args.entry) c.as_slice.ensures c.in_ok-plans.ensures)
