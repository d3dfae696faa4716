use Rattle.span_model.proofs.Carrying.{covered_attacks}
use Rattle.span_model.proofs.refreshes.attack_carries_over.Goals as goal

pub returns : goal.returns
returns g c = covered_attacks
