use Rattle.data_text.proofs.LawLemmas.{run_or_fault}
use Rattle.data_text.proofs.laws.run_or_fault.Goals as goal

pub returns : goal.returns
returns c = run_or_fault
