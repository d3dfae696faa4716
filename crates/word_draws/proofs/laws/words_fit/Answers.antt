use Rattle.word_draws.proofs.Drawing.{words_below}
use Rattle.word_draws.proofs.laws.words_fit.Goals as goal

pub returns : goal.returns
returns c = words_below
