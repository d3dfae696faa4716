use Rattle.ll_reader.proofs.Passing.{found}
use Rattle.c_grammar.specs.Classes.{classes_of}
use Rattle.c_grammar.specs.declared.table.TheConstants.{PRODUCTIONS, FRAME}
use Rattle.c_grammar.proofs.Classing.{ends_last}
use Rattle.c_grammar.proofs.Predictive.{predictive, derived_or_stopped}
use Rattle.c_grammar.proofs.read.derived_or_fault.Goals as goal

pub text_or_fault-requires : goal.text_or_fault-requires
text_or_fault-requires c = (found PRODUCTIONS FRAME, predictive)

pub returns : goal.returns
returns c = λ tokens end.
    let ends = ends_last tokens end in
    derived_or_stopped tokens end (c.text_or_fault.ensures (classes_of tokens end) ends.0 ends.1)
