use Rattle.span_model.proofs.Unfolding.{closed_attacks}
use Rattle.span_model.proofs.attacks.closure_gives_attack.Goals as goal

pub returns : goal.returns
returns g c = closed_attacks
