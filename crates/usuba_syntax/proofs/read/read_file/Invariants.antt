use Rattle.ll_reader.proofs.Passing.{found}
use Rattle.usuba_syntax.specs.declared.table.TheConstants.{PRODUCTIONS, FRAME}
use Rattle.usuba_syntax.proofs.read.read_file.Given as goal

-- what the table's rules say of themselves
abbrev pub ghost-read : goal.ghost-read
ghost-read a = found PRODUCTIONS FRAME
