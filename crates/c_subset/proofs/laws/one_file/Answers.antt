use Rattle.c_subset.proofs.Once as once
use Rattle.c_subset.proofs.laws.one_file.Goals as goal

pub returns : goal.returns
returns c = λ bits tokens first second x y. once.one_file bits tokens first second x y
