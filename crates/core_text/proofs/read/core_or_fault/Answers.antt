use Rattle.core_text.proofs.FaultLemmas.{all_told}
use Rattle.core_text.proofs.read.core_or_fault.Goals as goal

pub returns : goal.returns
returns c = all_told
