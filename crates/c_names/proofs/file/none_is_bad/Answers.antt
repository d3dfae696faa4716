use Rattle.c_names.proofs.Passing.{none_is_bad}
use Rattle.c_names.proofs.file.none_is_bad.Goals as goal

pub returns : goal.returns
returns c = none_is_bad
