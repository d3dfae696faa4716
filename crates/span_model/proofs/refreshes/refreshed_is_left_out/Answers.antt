use Rattle.span_model.proofs.LeavingOut.{same_attacks}
use Rattle.span_model.proofs.refreshes.refreshed_is_left_out.Goals as goal

pub returns : goal.returns
returns g c = same_attacks
