use Rattle.core_text.proofs.CoreLemmas.{only_written}
use Rattle.core_text.proofs.read.read_is_written.Goals as goal

pub returns : goal.returns
returns c = only_written
