use Rattle.std.proofs.Common.{ap, subst, ◌∙◌}
use Rattle.std.specs.Bool.{MatchBool}
use Rattle.span_model.specs.Columns.{set_of, ◌△◌}
use Rattle.span_model.specs.Span.{InSpan}
use Rattle.span_model.proofs.Sets.{△_comm, △_cancel_right}
use Rattle.gf2_span.specs.Basis.{row_sets}
use Rattle.attack_cert.proofs.levels.holds_sum.Goals as goal

pub returns-clause-answer : goal.returns-clause-answer
returns-clause-answer c =
    subst (λ sum. MatchBool c.contains-holds.result (InSpan (row_sets c.args.span.now) sum) (¬ InSpan (row_sets c.args.span.now) sum))
    (c.add.ensures.sum ∙ △_comm (set_of c.args.left.now) (set_of c.args.row.now)) c.contains-holds.ensures.answer

pub returns-clause-left : goal.returns-clause-left
returns-clause-left c =
    c.add-2.ensures.sum ∙ ap (λ sum. sum △ set_of c.args.row.now) c.add.ensures.sum ∙ △_cancel_right (set_of c.args.left.now) (set_of c.args.row.now)
