use Rattle.source_terms.proofs.Agreeing.{meanings_agree}
use Rattle.source_terms.proofs.laws.meanings_agree.Goals as goal

pub returns : goal.returns
returns c = meanings_agree
