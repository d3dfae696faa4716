use Rattle.refresh_place.proofs.Repairs.{is_repair_as}
use Rattle.refresh_place.proofs.repairing.repair.Goals as goal

pub returns : goal.returns
returns c =
    is_repair_as c.attacks_on_refreshed_cores.ensures c.args.core.now c.in_ok-repaired.repaired c.in_ok-marks.marks.items c.in_ok-set.set
    c.as_slice.result.now c.as_slice-2.result.now c.width-width.ensures.core c.in_ok-marks.ensures.marks c.as_slice.ensures.value c.as_slice-2.ensures.value
    c.in_ok-repaired.ensures c.in_ok-set.ensures c.in_ok-marks.ensures.repairs
