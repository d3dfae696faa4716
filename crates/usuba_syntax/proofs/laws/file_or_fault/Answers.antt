use Rattle.std.proofs.Common.{◌++◌}
use Rattle.ll_reader.proofs.Passing.{found}
use Rattle.usuba_syntax.specs.Classes.{behind}
use Rattle.usuba_syntax.specs.declared.table.TheConstants.{PRODUCTIONS, FRAME}
use Rattle.usuba_syntax.proofs.Coverage.{file_or_fault}
use Rattle.usuba_syntax.proofs.Reading.{predictive, ends_last}
use Rattle.usuba_syntax.proofs.Runs.{classes}
use Rattle.usuba_tokens.specs.Tokens.{start}
use Rattle.usuba_syntax.proofs.laws.file_or_fault.Goals as goal

pub text_or_fault-requires : goal.text_or_fault-requires
text_or_fault-requires c = (found PRODUCTIONS FRAME, predictive)

pub returns : goal.returns
returns c = λ bytes.
    let (tokens, end, spells) = c.every_text_spells.ensures start bytes in
    let (front, ends) = ends_last tokens end in
    file_or_fault bytes tokens end spells (c.text_or_fault.ensures (classes tokens ++ behind end) front ends)
