use Rattle.core_refresh.proofs.Sizes.{refreshed_core_size}
use Rattle.core_refresh.proofs.laws.refreshed_core_size.Goals as goal

pub returns : goal.returns
returns c = refreshed_core_size
