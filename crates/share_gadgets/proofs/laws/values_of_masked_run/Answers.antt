use Rattle.share_gadgets.proofs.RunLemmas.{masked_values}
use Rattle.share_gadgets.proofs.laws.values_of_masked_run.Goals as goal

pub returns : goal.returns
returns c = masked_values
