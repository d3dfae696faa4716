use Rattle.c_syntax.proofs.Single as single
use Rattle.c_syntax.proofs.laws.one_source.Goals as goal

pub returns-clause-file : goal.returns-clause-file
returns-clause-file c = λ bytes first second x y.
    single.one_source c.one_spelling.ensures c.one_file.ensures bytes first second x y

pub returns-clause-apart : goal.returns-clause-apart
returns-clause-apart c = λ bytes file place x fault.
    single.never_both c.one_spelling.ensures c.files_are_derived.ensures bytes file place x fault
