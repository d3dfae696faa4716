use Rattle.std.proofs.Common.{arith}
use Rattle.usuba0.proofs.KeepLemmas.{length_of_terms}
use Rattle.usuba0.proofs.builder.CoreBuilder.laws.Goals as goal

pub returns-clause-inputs : goal.returns-clause-inputs
returns-clause-inputs c = rw (← c.self.view_is) (let l = length_of_terms c.self.inside.inputs c.self.inside.heads.keys in omega arith)

pub returns-clause-few : goal.returns-clause-few
returns-clause-few c = rw (← c.self.view_is) (let l = length_of_terms c.self.inside.inputs c.self.inside.heads.keys in let f = c.self.invariant.few in omega arith)
