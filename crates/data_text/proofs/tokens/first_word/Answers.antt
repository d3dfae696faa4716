use Rattle.data_text.proofs.TokenLemmas.{first_word_split, first_word_whole}
use Rattle.data_text.proofs.tokens.first_word.Goals as goal

pub returns-in-Some : goal.returns-in-Some
returns-in-Some c =
    first_word_split c.args.bytes.now c.split_at.result.0.now c.split_at.result.1.now c.in-Some.place c.in-Some.ensures c.split_at.ensures.front c.split_at.ensures.back

pub returns-in-None : goal.returns-in-None
returns-in-None c = first_word_whole c.args.bytes.now c.in-None.ensures
