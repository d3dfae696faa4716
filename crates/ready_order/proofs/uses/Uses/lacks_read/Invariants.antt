use Rattle.std.proofs.Common.{◌≡◌, ◌+◌, ◌-◌}
use Rattle.ready_order.specs.Numbered.{lacks_read}
use Rattle.ready_order.specs.Uses.{has_mark}
use Rattle.ready_order.proofs.uses.Uses.lacks_read.Given as goal

abbrev pub invariant-loop-cell : goal.invariant-loop-cell
invariant-loop-cell l =
    lacks_read (has_mark l.self.assigned) (has_mark l.self.read) l.cell ((l.first + l.count) - l.cell)
    ≡ lacks_read (has_mark l.self.assigned) (has_mark l.self.read) l.first l.count
