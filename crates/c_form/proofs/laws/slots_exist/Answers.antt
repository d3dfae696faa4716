use Rattle.c_form.proofs.Existing.{slots-exist}
use Rattle.c_form.proofs.laws.slots_exist.Goals as goal

pub returns : goal.returns
returns c = slots-exist
