use Rattle.c_form.proofs.Existing.{masked_forms-exist}
use Rattle.c_form.proofs.laws.masked_forms_exist.Goals as goal

pub returns : goal.returns
returns c = masked_forms-exist
