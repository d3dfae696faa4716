use Rattle.c_subset.proofs.FileRuns.{run_file}
use Rattle.c_subset.proofs.laws.files_are_derived.Goals as goal

pub returns : goal.returns
returns c = λ bits tokens file at is. run_file bits tokens file at is
