use Rattle.attack_cert.proofs.Consequences.{derivations_hold}
use Rattle.attack_cert.proofs.laws.derivations_hold.Goals as goal

pub returns : goal.returns
returns g c = derivations_hold c.least_selections.ensures c.unfolding_is_attack.ensures
