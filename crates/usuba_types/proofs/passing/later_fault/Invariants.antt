use Rattle.usuba_types.proofs.Standing.{Stands}
use Rattle.usuba_types.proofs.passing.later_fault.Given as goal

abbrev pub invariant-loop-definition : goal.invariant-loop-definition
invariant-loop-definition l =
    Stands l.width l.file.defs l.definition-index l.pass.definitions l.pass.sizes.items l.pass.kept
