use Rattle.c_form.proofs.Counting.{slots-unique}
use Rattle.c_form.proofs.laws.slots_are_unique.Goals as goal

pub returns : goal.returns
returns c = slots-unique
