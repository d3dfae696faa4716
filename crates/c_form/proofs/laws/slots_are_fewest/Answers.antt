use Rattle.c_form.proofs.Counting.{slots-fewest}
use Rattle.c_form.proofs.laws.slots_are_fewest.Goals as goal

pub returns : goal.returns
returns c = slots-fewest
