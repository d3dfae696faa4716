use Rattle.ll_reader.proofs.Passing.{found}
use Rattle.usuba_syntax.proofs.Reading.{predictive}
use Rattle.usuba_syntax.proofs.Texts.{one_file_by}
use Rattle.usuba_syntax.proofs.laws.one_file.Goals as goal
use Rattle.usuba_syntax.specs.declared.table.TheConstants.{PRODUCTIONS, FRAME}

pub steps_are_determined-requires : goal.steps_are_determined-requires
steps_are_determined-requires c = (found PRODUCTIONS FRAME, predictive)

pub returns : goal.returns
returns c = λ tokens first second x y. one_file_by c.steps_are_determined.ensures.whole x y
