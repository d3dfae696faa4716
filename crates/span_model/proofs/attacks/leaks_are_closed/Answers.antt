use Rattle.span_model.proofs.Unfolding.{leak_closed}
use Rattle.span_model.proofs.attacks.leaks_are_closed.Goals as goal

pub returns : goal.returns
returns g c = leak_closed
