use Rattle.usuba_syntax.proofs.OneSource.{same_file, same_fault, never_both}
use Rattle.usuba_syntax.proofs.laws.one_source.Goals as goal

pub returns-clause-file : goal.returns-clause-file
returns-clause-file c = same_file c.one_spelling.ensures c.one_file.ensures

pub returns-clause-fault : goal.returns-clause-fault
returns-clause-fault c = same_fault c.one_spelling.ensures

pub returns-clause-apart : goal.returns-clause-apart
returns-clause-apart c = never_both c.one_spelling.ensures
