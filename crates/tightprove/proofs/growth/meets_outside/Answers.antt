use Rattle.span_model.specs.Columns.{sets_of}
use Rattle.gf2_span.specs.Basis.{row_sets}
use Rattle.tightprove.proofs.Calls.{meets_answer}
use Rattle.tightprove.proofs.growth.meets_outside.Goals as goal

pub returns-in_default-clause-answer : goal.returns-in_default-clause-answer
returns-in_default-clause-answer c v m h = c.in_default.ensures.answer v (c.requires.candidates_in v m) h

pub returns-clause-answer : goal.returns-clause-answer
returns-clause-answer c = meets_answer (row_sets c.args.candidates.now) (row_sets c.in_ok-meet.meet) (sets_of c.args.rows.now) (row_sets c.args.span.now) c.is_within.result _ c.in_ok-meet.ensures.members c.is_within.ensures.answer
