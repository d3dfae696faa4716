use Rattle.span_model.proofs.Refreshing.{needed_has}
use Rattle.span_model.proofs.refreshes.needed_stays_needed.Goals as goal

pub returns : goal.returns
returns g c = needed_has
