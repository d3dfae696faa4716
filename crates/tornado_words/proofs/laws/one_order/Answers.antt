use Rattle.tornado_words.proofs.LawLemmas.{one_order}
use Rattle.tornado_words.proofs.laws.one_order.Goals as goal

pub returns : goal.returns
returns c = one_order
