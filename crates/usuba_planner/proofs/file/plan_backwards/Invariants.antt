use Rattle.usuba_planner.proofs.Planning.{IsPlannedFrom}
use Rattle.usuba_planner.proofs.file.plan_backwards.Given as goal

abbrev pub invariant-loop-number : goal.invariant-loop-number
invariant-loop-number l = IsPlannedFrom l.defs l.entry l.number l.earlier l.marks.items l.plans.items
