use Rattle.std.proofs.Common.{◌∙◌, ◌++◌}
use Rattle.std.proofs.lemmas.Bool.{OnFalse_at}
use Rattle.span_model.proofs.Members.{in_front}
use Rattle.gf2_span.specs.Basis.{row_sets}
use Rattle.tightprove.proofs.Leading.{led_more, led_end}
use Rattle.tightprove.proofs.growth.first_outside.Goals as goal

pub loop-row-preserved : goal.loop-row-preserved
loop-row-preserved c = record {
  columns = c.leads_outside.ensures.scratch ∙ c.loop-row.invariant.columns;
  within = led_more (row_sets c.args.span.now) (row_sets c.args.rest.now ++ row_sets c.args.span.now) c.args.rows.now c.loop-row.row-index c.row-item.result c.loop-row-test.true c.row-item.is c.loop-row.invariant.within
      (OnFalse_at c.if-leads_outside.false c.leads_outside.ensures.answer);
}

pub returns-clause-answer : goal.returns-clause-answer
returns-clause-answer c =
    led_end (row_sets c.args.rest.now ++ row_sets c.args.span.now) (row_sets c.args.span.now) c.args.rows.now c.loop-row.row-index c.leads_are_kept.ensures c.requires.own
    (in_front (row_sets c.args.rest.now) (row_sets c.args.span.now)) c.loop-row-test.false c.loop-row.invariant.within
