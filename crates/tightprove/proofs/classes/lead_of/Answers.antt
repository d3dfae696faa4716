use Rattle.std.proofs.Common.{[], sym}
use Rattle.tightprove.proofs.Gathering.{lead_is, none_past}
use Rattle.tightprove.proofs.classes.lead_of.Goals as goal

pub returns-in-Some-clause-value : goal.returns-in-Some-clause-value
returns-in-Some-clause-value c =
    lead_is c.args.span.now.rows c.args.k c.in-Some.row.now c.last.result (sym c.in-Some.ensures.value) c.last.ensures

pub returns-in-None-clause-value : goal.returns-in-None-clause-value
returns-in-None-clause-value c n lt last = absurd (none_past c.args.span.now.rows c.args.k [] c.in-None.ensures.value lt)
