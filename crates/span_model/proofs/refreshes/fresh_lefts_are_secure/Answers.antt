use Rattle.span_model.proofs.Refreshing.{fresh_secure}
use Rattle.span_model.proofs.refreshes.fresh_lefts_are_secure.Goals as goal

pub returns : goal.returns
returns g c = fresh_secure
