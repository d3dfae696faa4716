use Rattle.share_gadgets.proofs.RunLemmas.{masked_shared}
use Rattle.share_gadgets.proofs.laws.outputs_are_sharings.Goals as goal

pub returns : goal.returns
returns c = masked_shared
