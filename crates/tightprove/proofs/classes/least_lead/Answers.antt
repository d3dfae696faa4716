use Rattle.std.proofs.Common.{arith}
use Rattle.tightprove.proofs.Gathering.{lower_more}
use Rattle.tightprove.proofs.classes.least_lead.Goals as goal

pub loop-k-preserved : goal.loop-k-preserved
loop-k-preserved c =
    lower_more c.args.span.now.rows c.loop-k.k c.loop-k.low c.lower-low.result c.lead_of.result (omega (arith, c.loop-k-test.true, c.rank-k-end.ensures.value)) c.loop-k.invariant
    c.lead_of.ensures.value c.lower-low.ensures.less c.lower-low.ensures.lead

pub returns : goal.returns
returns c j n h last = c.loop-k.invariant j n (omega (arith, h, c.loop-k-test.false, c.rank-k-end.ensures.value)) last
