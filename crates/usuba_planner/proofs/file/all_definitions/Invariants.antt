use Rattle.std.proofs.Common.{◌≡◌}
use Rattle.usuba_planner.specs.State.Sound.{signatures_before}
use Rattle.usuba_planner.proofs.file.all_definitions.Given as goal

abbrev pub invariant-loop-definition : goal.invariant-loop-definition
invariant-loop-definition l = l.definitions ≡ signatures_before l.defs l.definition-index
