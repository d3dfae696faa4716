use Rattle.std.proofs.Common.{ap, sym}
use Rattle.std.specs.Option.{option_map}
use Rattle.column_lists.specs.Reading.{fitting}
use Rattle.column_lists.proofs.NameLemmas.{more_parts}
use Rattle.column_lists.proofs.named.column_at.Goals as goal

pub returns-in-Some-cut : goal.returns-in-Some-cut
returns-in-Some-cut c =
    sym
    (ap (option_map fitting)
    (more_parts c.args.kind c.args.place.now c.in-Some.number.now c.in-Some.bit.now c.in-Some-cut.field-0.0.now c.in-Some-cut.field-0.1.now c.in-Some.ensures.parts
    c.in-Some-cut.ensures.parts))
