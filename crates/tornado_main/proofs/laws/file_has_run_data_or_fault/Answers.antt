use Rattle.tornado_main.proofs.RunDataLemmas.{run_read}
use Rattle.tornado_main.proofs.laws.file_has_run_data_or_fault.Goals as goal

pub returns : goal.returns
returns c = run_read c.run_or_fault.ensures
