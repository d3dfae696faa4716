use Rattle.c_tokens.proofs.SpellingLemmas.{every}
use Rattle.c_tokens.proofs.tokens.every_text_spells.Goals as goal

pub returns : goal.returns
returns c = λ at text. every at text
