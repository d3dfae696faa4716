use Rattle.core_text.proofs.RoundLemmas.{text_back}
use Rattle.core_text.proofs.read.written_is_read.Goals as goal

pub returns : goal.returns
returns c = text_back
