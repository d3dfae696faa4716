use Rattle.refresh_place.proofs.RefreshedProducts.{refreshed_cores_are_refreshed}
use Rattle.refresh_place.proofs.laws.refreshed_cores_are_refreshed.Goals as goal

pub returns : goal.returns
returns c = refreshed_cores_are_refreshed
