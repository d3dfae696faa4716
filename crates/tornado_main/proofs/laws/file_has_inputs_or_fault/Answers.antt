use Rattle.tornado_main.proofs.InputsLemmas.{inputs_read}
use Rattle.tornado_main.proofs.laws.file_has_inputs_or_fault.Goals as goal

pub returns : goal.returns
returns c = inputs_read c.values_or_fault.ensures
