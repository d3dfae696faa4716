use Rattle.std.proofs.Common.{◌≡◌, ◌+◌, ◌-◌}
use Rattle.ready_order.specs.Numbered.{lacks_assigned}
use Rattle.ready_order.specs.Uses.{has_mark}
use Rattle.ready_order.proofs.uses.Uses.lacks_assigned.Given as goal

abbrev pub invariant-loop-cell : goal.invariant-loop-cell
invariant-loop-cell l =
    lacks_assigned (has_mark l.self.assigned) l.cell ((l.first + l.count) - l.cell)
    ≡ lacks_assigned (has_mark l.self.assigned) l.first l.count
