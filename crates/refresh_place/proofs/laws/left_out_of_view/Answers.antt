use Rattle.refresh_place.proofs.LeftOut.{left_out_of_view}
use Rattle.refresh_place.proofs.laws.left_out_of_view.Goals as goal

pub returns : goal.returns
returns c =
    left_out_of_view c.refreshed_cores_are_refreshed.ensures c.refreshed_under_names.ensures c.refreshed_is_left_out.ensures
    c.renaming_keeps_attacks.ensures c.renaming_keeps_attacks-2.ensures c.narrow_views_keep_attacks.ensures
