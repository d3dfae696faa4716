use Rattle.usuba_tokens.proofs.LongestLemmas.{broken_for}
use Rattle.usuba_tokens.proofs.tokens.broken_texts_have_a_cause.Goals as goal

pub returns : goal.returns
returns c = λ text is. broken_for text is
