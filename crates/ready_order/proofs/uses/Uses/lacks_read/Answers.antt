use Rattle.std.proofs.Common.{◌+◌}
use Rattle.ready_order.specs.Numbered.{lacks_read}
use Rattle.ready_order.specs.Uses.{has_mark}
use Rattle.ready_order.proofs.StepLemmas.{lacks_read_loop}
use Rattle.ready_order.proofs.uses.Uses.lacks_read.Goals as goal

pub loop-cell-preserved : goal.loop-cell-preserved
loop-cell-preserved c =
    lacks_read_loop (has_mark c.args.self.now.assigned) (has_mark c.args.self.now.read) c.loop-cell.cell (c.args.first + c.args.count)
    (lacks_read (has_mark c.args.self.now.assigned) (has_mark c.args.self.now.read) c.args.first c.args.count) c.loop-cell-test.true
    c.if-is_read_unassigned.ensures c.loop-cell.invariant
