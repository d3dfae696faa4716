use Rattle.std.proofs.Common.{◌∙◌}
use Rattle.core_refresh.specs.RefreshedCore.{marked}
use Rattle.refresh_place.proofs.Repairs.{narrow_count, least_repairs}
use Rattle.refresh_place.proofs.repairing.repair_set.Goals as goal

pub returns-clause-marks : goal.returns-clause-marks
returns-clause-marks c =
    c.in_ok-set.ensures.marks ∙ narrow_count c.core_view_size.ensures c.args.core.now c.in_ok-view.view c.in_ok-view.ensures

pub returns-clause-repairs : goal.returns-clause-repairs
returns-clause-repairs c =
    least_repairs c.left_out_of_view.ensures c.core_view_size.ensures c.args.core.now c.in_ok-view.view (marked c.in_ok-set.set.items) c.width-width.ensures.core
    c.in_ok-view.ensures c.in_ok-set.ensures.least
