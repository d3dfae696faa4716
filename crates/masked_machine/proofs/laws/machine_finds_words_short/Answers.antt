use Rattle.masked_machine.proofs.Answering.{finds_words_short}
use Rattle.masked_machine.proofs.laws.machine_finds_words_short.Goals as goal

pub returns : goal.returns
returns c = finds_words_short
