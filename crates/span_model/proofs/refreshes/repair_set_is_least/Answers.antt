use Rattle.span_model.proofs.Refreshing.{repair_least}
use Rattle.span_model.proofs.refreshes.repair_set_is_least.Goals as goal

pub returns : goal.returns
returns g c = repair_least
