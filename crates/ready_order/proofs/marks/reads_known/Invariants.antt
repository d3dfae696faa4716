use Rattle.std.proofs.Common.{◌≡◌, drop}
use Rattle.ready_order.specs.State.Marks.{reads_marked}
use Rattle.ready_order.proofs.marks.reads_known.Given as goal

abbrev pub invariant-loop-operation : goal.invariant-loop-operation
invariant-loop-operation l = reads_marked l.marks.items (drop l.operation-index l.code) ≡ reads_marked l.marks.items l.code
