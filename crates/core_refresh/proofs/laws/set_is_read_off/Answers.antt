use Rattle.core_refresh.proofs.ReadOff.{set_is_read_off}
use Rattle.core_refresh.proofs.laws.set_is_read_off.Goals as goal

pub returns : goal.returns
returns c = set_is_read_off
