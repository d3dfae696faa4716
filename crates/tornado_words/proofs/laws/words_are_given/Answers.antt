use Rattle.tornado_words.proofs.RefusalLemmas.{words_are_given}
use Rattle.tornado_words.proofs.laws.words_are_given.Goals as goal

pub returns : goal.returns
returns c = words_are_given
