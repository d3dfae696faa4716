use Rattle.usuba_types.proofs.Naming.{numbered_sizes}
use Rattle.usuba_types.proofs.laws.numbered_sizes.Goals as goal

pub returns : goal.returns
returns c = numbered_sizes
