use Rattle.std.proofs.Common.{drop}
use Rattle.usuba_cells.specs.Counters.{around}
use Rattle.usuba_walk.proofs.Expressions.{MovesSoFar}
use Rattle.usuba_walk.proofs.leaves.walk_moves.Given as goal

abbrev pub invariant-loop-sign : goal.invariant-loop-sign
invariant-loop-sign l = MovesSoFar l.width (around l.counters) l.fn.progress l.progress l.fn.size l.size l.moves (drop l.sign-index l.moves)
