use Rattle.span_model.specs.Columns.{sets_of}
use Rattle.gf2_span.specs.Basis.{row_sets}
use Rattle.tightprove.proofs.Calls.{holds_answer}
use Rattle.tightprove.proofs.growth.holds.Goals as goal

pub returns-clause-answer : goal.returns-clause-answer
returns-clause-answer c = holds_answer c.args.candidates.now (row_sets c.in_ok-meet.meet) (sets_of c.args.rows.now) (row_sets c.args.span.now) c.is_within.result c.in_ok-meet.ensures.members c.is_within.ensures.answer
