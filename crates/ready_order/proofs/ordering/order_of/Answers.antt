use Rattle.std.proofs.Common.{Option, Some, sym, ap, ◌∙◌}
use Rattle.tor_edge.specs.declared.place.Place.{Place}
use Rattle.usuba_model.specs.declared.fault.Fault.{Fault}
use Rattle.usuba_model.specs.declared.fault.FaultKind.TheVariants.{Cyclic}
use Rattle.ready_order.specs.State.Scan.{progress}
use Rattle.ready_order.proofs.OrderLemmas.{whole_order, left_stuck}
use Rattle.ready_order.proofs.ordering.order_of.Goals as goal

pub returns-in-None : goal.returns-in-None
returns-in-None c =
    whole_order c.args.inputs c.args.cells c.args.table.now.done (progress c.in_ok-scan.scan) c.in_ok-scan.ensures.scan c.in-None.ensures

stuck_at : Place → Option Fault
stuck_at place = Some (record { kind = Cyclic; place = place })

pub returns-in-Some : goal.returns-in-Some
unfolding stuck_at
returns-in-Some c =
    left_stuck c.args.inputs c.args.cells c.args.table.now.done (progress c.in_ok-scan.scan) c.in_ok-scan.ensures.scan
    c.in_ok-scan.ensures.settled c.in-Some.k c.in-Some.ensures
    ∙ ap stuck_at (sym c.beginning_of.ensures)
