use Rattle.refresh_place.proofs.Attacks.{attacks_on_refreshed_cores}
use Rattle.refresh_place.proofs.laws.attacks_on_refreshed_cores.Goals as goal

pub returns : goal.returns
returns c =
    attacks_on_refreshed_cores c.refreshed_cores_are_refreshed.ensures c.refreshed_under_names.ensures c.all_refreshed_is_secure.ensures
    c.attack_stays_with_fewer.ensures c.none_refreshed_is_same.ensures c.core_view_size.ensures
