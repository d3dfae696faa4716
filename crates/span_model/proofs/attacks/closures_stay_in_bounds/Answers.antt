use Rattle.span_model.proofs.Bounding.{closures_stay_in_bounds}
use Rattle.span_model.proofs.attacks.closures_stay_in_bounds.Goals as goal

pub returns : goal.returns
returns g c = closures_stay_in_bounds
