use Rattle.std.proofs.Common.{arith}
use Rattle.usuba_syntax.proofs.read.too_big_up_to.Goals as goal

pub returns-in_default-clause-none : goal.returns-in_default-clause-none
returns-in_default-clause-none c = λ k h. c.in-Some.ensures.first k (omega arith)

pub returns-in_default-2-clause-none : goal.returns-in_default-2-clause-none
returns-in_default-2-clause-none c = λ k h. c.in_default.ensures.none k
