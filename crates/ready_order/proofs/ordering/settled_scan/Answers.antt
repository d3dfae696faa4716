use Rattle.ready_order.specs.State.Scan.{progress}
use Rattle.ready_order.proofs.SettleLemmas.{leads_kept}
use Rattle.ready_order.proofs.ordering.settled_scan.Goals as goal

pub returns-clause-scan : goal.returns-clause-scan
returns-clause-scan c =
    leads_kept c.args.inputs c.args.cells c.args.table.now.done c.requires.cells (progress c.follow_hint.new.scan) (progress c.settle.new.self)
    c.in_ok-settle.ensures.leads c.in_ok-follow_hint.ensures
