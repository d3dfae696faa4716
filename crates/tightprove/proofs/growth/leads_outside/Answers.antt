use Rattle.std.proofs.Common.{◌++◌}
use Rattle.span_model.specs.Columns.{set_of}
use Rattle.gf2_span.specs.Basis.{row_sets}
use Rattle.tightprove.proofs.Leading.{led_free, led_answer, leads_neither}
use Rattle.tightprove.proofs.growth.leads_outside.Goals as goal

pub returns-then-not-has_lead-clause-answer : goal.returns-then-not-has_lead-clause-answer
returns-then-not-has_lead-clause-answer c =
    led_free (row_sets c.args.span.now) (row_sets c.args.rest.now ++ row_sets c.args.span.now) (set_of c.args.row.now) c.in-Some.c c.in-Some.ensures.1
    (leads_neither c.args.rest.now.rows c.args.span.now.rows c.in-Some.c c.requires.apart c.if-has_lead.ensures c.if-not-has_lead.ensures)

pub returns-clause-answer : goal.returns-clause-answer
returns-clause-answer c =
    led_answer (row_sets c.args.span.now) (row_sets c.args.rest.now ++ row_sets c.args.span.now) (set_of c.args.row.now) c.contains.result c.contains.ensures.answer
