use Rattle.attack_probes.proofs.Attacking.{unfolding_attacks}
use Rattle.attack_probes.proofs.laws.unfolding_is_attack.Goals as goal

pub returns : goal.returns
returns g c products leak steps root among order sound = unfolding_attacks products leak steps root among order sound
