use Rattle.attack_cert.proofs.Attacks.{derived_attacks_hold}
use Rattle.attack_cert.proofs.laws.derived_attacks_hold.Goals as goal

pub returns : goal.returns
returns c = derived_attacks_hold c.unfolding_is_attack.ensures c.written_is_read.ensures
