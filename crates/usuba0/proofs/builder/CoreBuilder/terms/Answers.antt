use Rattle.usuba0.proofs.KeepLemmas.{length_of_terms}
use Rattle.std.proofs.Common.{arith}
use Rattle.usuba0.proofs.builder.CoreBuilder.terms.Goals as goal

pub returns : goal.returns
returns c = rw (← c.self.view_is) (let l = length_of_terms c.self.inside.inputs c.self.inside.heads.keys in omega arith)
