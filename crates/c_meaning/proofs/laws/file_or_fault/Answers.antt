use Rattle.c_meaning.proofs.Reading.{either}
use Rattle.c_meaning.proofs.laws.file_or_fault.Goals as goal

pub returns : goal.returns
returns c = either c.bad_or_right.ensures c.file_or_fault.ensures
