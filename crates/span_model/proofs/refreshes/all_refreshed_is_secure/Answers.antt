use Rattle.span_model.proofs.Refreshing.{all_secure}
use Rattle.span_model.proofs.refreshes.all_refreshed_is_secure.Goals as goal

pub returns : goal.returns
returns g c = all_secure
