use Rattle.data_text.proofs.LawLemmas.{values_or_fault}
use Rattle.data_text.proofs.laws.values_or_fault.Goals as goal

pub returns : goal.returns
returns c = values_or_fault
