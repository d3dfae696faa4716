use Rattle.ll_reader.proofs.Passing.{found}
use Rattle.c_grammar.specs.declared.table.TheConstants.{PRODUCTIONS, FRAME}
use Rattle.c_grammar.proofs.read.steps_of.Given as goal

-- what the table's rules say of themselves
abbrev pub ghost-read : goal.ghost-read
ghost-read a = found PRODUCTIONS FRAME
