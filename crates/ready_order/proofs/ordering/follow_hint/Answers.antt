use Rattle.ready_order.specs.State.Scan.{progress}
use Rattle.ready_order.proofs.SettleLemmas.{considered_scan}
use Rattle.ready_order.proofs.ordering.follow_hint.Goals as goal

pub returns : goal.returns
returns c =
    considered_scan c.args.inputs c.args.cells c.args.table.now.done c.requires.cells c.as_slice.result.now (progress c.args.scan.now)
    (progress c.follow.new.self) c.in_ok-follow.ensures c.requires.scan
