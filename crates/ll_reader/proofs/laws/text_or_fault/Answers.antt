use Rattle.ll_reader.proofs.Answered.{answered}
use Rattle.ll_reader.proofs.laws.text_or_fault.Goals as goal

pub returns : goal.returns
returns c = λ classes front ends. answered c.args._table.now c.args._frame c.requires.0 c.requires.1 classes front ends
