use Rattle.masked_meaning.proofs.Composing.{computes_the_source}
use Rattle.masked_meaning.proofs.laws.masked_code_computes_the_source.Goals as goal

pub returns : goal.returns
returns c = computes_the_source c.masked_code_computes_the_core.ensures c.meanings_agree.ensures
