use Rattle.span_model.proofs.Refreshing.{fewer_attack}
use Rattle.span_model.proofs.refreshes.attack_stays_with_fewer.Goals as goal

pub returns : goal.returns
returns g c = fewer_attack
