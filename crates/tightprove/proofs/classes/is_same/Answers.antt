use Rattle.std.proofs.Common.{◌∙◌}
use Rattle.gf2_span.specs.Basis.{row_sets}
use Rattle.gf2_span.proofs.Leads.{within_more}
use Rattle.tightprove.proofs.Calls.{same_both}
use Rattle.tightprove.proofs.classes.is_same.Goals as goal

pub loop-row-preserved : goal.loop-row-preserved
loop-row-preserved c = record {
  columns = c.if-not-contains.ensures.scratch ∙ c.loop-row.invariant.columns;
  inside = within_more (row_sets c.args.span.now) c.args.rows.now c.loop-row.row-index c.row-item.result c.loop-row-test.true c.row-item.is c.loop-row.invariant.inside c.if-not-contains.ensures.answer;
}

pub returns : goal.returns
returns c =
    same_both (row_sets c.args.span.now) (row_sets c.in_ok-other.other) c.args.rows.now c.loop-row.row-index c.is_within.result _ c.loop-row-test.false
    c.loop-row.invariant.inside c.in_ok-other.ensures.span c.is_within.ensures.answer
