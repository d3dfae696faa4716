use Rattle.span_model.proofs.Carrying.{renamed_attacks}
use Rattle.span_model.proofs.refreshes.renaming_keeps_attacks.Goals as goal

pub returns : goal.returns
returns g c = renamed_attacks
