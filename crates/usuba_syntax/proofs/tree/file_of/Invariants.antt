use Rattle.std.proofs.Common.{vec_len}
use Rattle.usuba_syntax.proofs.Evaluation.{IsMidway}
use Rattle.usuba_syntax.proofs.tree.file_of.Given as goal

abbrev pub invariant-loop-step : goal.invariant-loop-step
invariant-loop-step l = IsMidway l.fn.steps.items l.fn.tokens l.left.items l.before l.parts

abbrev pub decreases-loop-step : goal.decreases-loop-step
decreases-loop-step l = vec_len l.left
