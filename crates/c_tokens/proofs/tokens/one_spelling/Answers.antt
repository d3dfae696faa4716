use Rattle.c_tokens.proofs.SpellingLemmas.{one}
use Rattle.c_tokens.proofs.tokens.one_spelling.Goals as goal

pub returns : goal.returns
returns c = λ at text first second end other spelled again. one at text first second end other spelled again
