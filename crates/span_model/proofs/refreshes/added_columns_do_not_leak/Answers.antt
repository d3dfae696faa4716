use Rattle.span_model.proofs.Refreshing.{added_lacks}
use Rattle.span_model.proofs.refreshes.added_columns_do_not_leak.Goals as goal

pub returns : goal.returns
returns g c = added_lacks
