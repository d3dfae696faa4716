use Rattle.std.proofs.Common.{drop}
use Rattle.usuba_cells.specs.Counters.{around}
use Rattle.usuba_walk.proofs.Equations.{LeftSoFar}
use Rattle.usuba_walk.proofs.equation.walk_left.Given as goal

abbrev pub invariant-loop-spot : goal.invariant-loop-spot
invariant-loop-spot l = LeftSoFar l.scope.variables (around l.counters) l.fn.progress l.progress l.size l.left (drop l.spot-index l.left)
