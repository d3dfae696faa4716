use Rattle.tornado_words.proofs.RefusalLemmas.{refused_alone}
use Rattle.tornado_words.proofs.laws.refused_alone.Goals as goal

pub returns : goal.returns
returns c = refused_alone
