use Rattle.usuba_tokens.proofs.LongestLemmas.{found_is_longest}
use Rattle.usuba_tokens.proofs.tokens.tokens_are_longest.Goals as goal

pub returns : goal.returns
returns c = λ text found n is. found_is_longest text found n is
