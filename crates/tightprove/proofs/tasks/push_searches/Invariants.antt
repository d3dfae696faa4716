use Rattle.std.proofs.Common.{◌≡◌, ◌++◌}
use Rattle.tightprove.specs.Tasks.{searches}
use Rattle.tightprove.proofs.tasks.push_searches.Given as goal

abbrev pub invariant-loop-piece : goal.invariant-loop-piece
invariant-loop-piece l = l.tasks.items ++ searches l.piece-iterator.rest.items ≡ l.initial.tasks.items ++ searches l.fn.pieces.items
