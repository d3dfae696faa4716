use Rattle.span_model.proofs.Refreshing.{none_same}
use Rattle.span_model.proofs.refreshes.none_refreshed_is_same.Goals as goal

pub returns : goal.returns
returns g c = none_same
