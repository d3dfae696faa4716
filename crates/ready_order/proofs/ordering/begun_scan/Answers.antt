use Rattle.ready_order.specs.State.Scan.{progress}
use Rattle.ready_order.proofs.SettleLemmas.{begun_scan}
use Rattle.ready_order.proofs.ordering.begun_scan.Goals as goal

pub returns : goal.returns
returns c =
    begun_scan c.args.inputs c.args.cells c.args.table.now.done c.requires.cells c.requires.inputs c.len.result c.len.ensures
    (progress c.in_ok-scan.scan) (progress c.pass.new.self) c.in_ok-scan.ensures c.in_ok-_moved.ensures.passed
