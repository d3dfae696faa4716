use Rattle.c_subset.proofs.Sound.{derived_is_file}
use Rattle.c_subset.proofs.laws.derived_are_files.Goals as goal

pub returns : goal.returns
returns c = λ bits tokens at steps derived. derived_is_file bits tokens at steps derived
