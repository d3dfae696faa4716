use Rattle.c_form.proofs.Forms.{masked_forms-unique}
use Rattle.c_form.proofs.laws.masked_forms_are_unique.Goals as goal

pub returns : goal.returns
returns c = masked_forms-unique
