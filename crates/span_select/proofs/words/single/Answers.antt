use Rattle.span_select.proofs.Growing.{single_set}
use Rattle.span_select.proofs.words.single.Goals as goal

pub returns-clause-unit : goal.returns-clause-unit
returns-clause-unit c = rw (c.flip.ensures, c.in_ok-row.ensures) (single_set c.args.columns c.args.c c.requires)
