use Rattle.std.proofs.Common.{sym}
use Rattle.text_lines.proofs.CutLemmas.{split_at_none, split_at_some}
use Rattle.text_lines.proofs.cutting.cut.Goals as goal

pub returns-in-Some-clause-parts : goal.returns-in-Some-clause-parts
returns-in-Some-clause-parts c = split_at_some c.args.at c.args.bytes.now c.in-Some.place (sym c.in-Some.ensures)

pub returns-in-None-clause-parts : goal.returns-in-None-clause-parts
returns-in-None-clause-parts c = split_at_none c.args.at c.args.bytes.now (sym c.in-None.ensures)
