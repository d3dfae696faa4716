use Rattle.tornado_words.proofs.RangeLemmas.{orders_are_in_range}
use Rattle.tornado_words.proofs.laws.orders_are_in_range.Goals as goal

pub returns : goal.returns
returns c = orders_are_in_range
