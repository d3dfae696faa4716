use Rattle.span_model.proofs.Refreshing.{leak_lacks}
use Rattle.span_model.proofs.refreshes.left_columns_do_not_leak.Goals as goal

pub returns : goal.returns
returns g c = leak_lacks
