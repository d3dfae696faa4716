use Rattle.attack_model.proofs.UseLemmas.{uses_below, uses_increase, are_uses_from}
use Rattle.attack_model.proofs.laws.uses_rise.Goals as goal

pub returns : goal.returns
returns c = λ bound uses. (λ are. (uses_increase bound uses are, uses_below bound uses are), λ both. are_uses_from bound uses both.0 both.1)
