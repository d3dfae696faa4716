use Rattle.span_model.proofs.Closing.{attack_closes}
use Rattle.span_model.proofs.attacks.attack_gives_closure.Goals as goal

pub returns : goal.returns
returns g c = attack_closes
