use Rattle.tornado_main.proofs.RunDataLemmas.{c_read}
use Rattle.tornado_main.proofs.laws.file_is_c_or_fault.Goals as goal

pub returns : goal.returns
returns c = c_read c.file_or_fault.ensures
