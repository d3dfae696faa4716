use Rattle.std.proofs.Common.{ap, ◌∙◌}
use Rattle.std.specs.Option.{option_map}
use Rattle.column_lists.specs.Reading.{fitting}
use Rattle.column_lists.proofs.NameLemmas.{column_of_empty, column_of_first}
use Rattle.column_lists.proofs.named.column_of.Goals as goal

pub returns-in-Some : goal.returns-in-Some
returns-in-Some c =
    c.column_of_kind.ensures
    ∙ ap (option_map fitting) (column_of_first c.args.word.now c.in-Some.letter.now c.in-Some.place.now c.kind_of.result c.in-Some.ensures.cases.0 c.kind_of.ensures)

pub returns-in-None : goal.returns-in-None
returns-in-None c = column_of_empty c.args.word.now c.in-None.ensures.cases
