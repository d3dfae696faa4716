use Rattle.source_terms.proofs.Agreeing.{terms_have_the_meaning}
use Rattle.source_terms.proofs.laws.terms_have_the_meaning.Goals as goal

pub returns : goal.returns
returns c = terms_have_the_meaning
