use Rattle.std.proofs.Common.{arith}
use Rattle.std.proofs.lemmas.Bool.{OnFalse_at}
use Rattle.gf2_span.specs.Basis.{row_sets}
use Rattle.tightprove.proofs.Rests.{apart_more, apart_ends}
use Rattle.tightprove.proofs.apart.share_lead.Goals as goal

pub loop-k-preserved : goal.loop-k-preserved
loop-k-preserved c =
    apart_more c.args.a.now.rows (row_sets c.args.b.now) c.loop-k.k c.lead_of.result (omega (arith, c.loop-k-test.true, c.rank-k-end.ensures.value)) c.loop-k.invariant
    c.lead_of.ensures.value (OnFalse_at c.if-leads_member.false c.leads_member.ensures)

pub returns : goal.returns
returns c =
    apart_ends c.args.a.now.rows (row_sets c.args.b.now) c.leads_are_kept.ensures c.rank-k-end.ensures.leads
    (λ j n h last. c.loop-k.invariant j n (omega (arith, h, c.loop-k-test.false, c.rank-k-end.ensures.value)) last)
