use Rattle.std.proofs.Common.{◌+◌, ◌++◌, suc, take, drop, ap, ◌∙◌}
use Rattle.tor_edge.proofs.Writing.{Wrote-is, Wrote-then, Wrote-stops, Wrote-ok}
use Rattle.attack_text.specs.AttackText.{step_words, steps_text}
use Rattle.attack_model.specs.declared.attack.Step.{Step}
use Rattle.attack_text.proofs.WriteLemmas.{steps_text_more, steps_text_around}
use Rattle.text_lines.specs.Words.{line_text}
use Rattle.attack_text.proofs.write.put_step_lines.Goals as goal

pub returns-in_err-put_step : goal.returns-in_err-put_step
returns-in_err-put_step g c =
    let steps = c.args.steps.now in
    let i = c.loop-index.index in
    let rest = steps_text (suc i) (drop (i + 1) steps) in
    Wrote-is
    (ap (λ (step : Step). steps_text 0 (take i steps) ++ (line_text (step_words i step) ++ rest)) c.index-steps-index.is
    ∙ steps_text_around steps i c.index-steps-index.result c.loop-index-test.true)
    (Wrote-then c.loop-index.invariant (Wrote-stops rest c.in_err-put_step.ensures c.from_residual.ensures.0))

pub loop-index-preserved : goal.loop-index-preserved
loop-index-preserved g c =
    let steps = c.args.steps.now in
    let i = c.loop-index.index in
    Wrote-is
    (ap (λ (step : Step). steps_text 0 (take i steps) ++ line_text (step_words i step)) c.index-steps-index.is
    ∙ steps_text_more steps i c.index-steps-index.result c.loop-index-test.true)
    (Wrote-then c.loop-index.invariant (Wrote-ok _ _ c.in_ok-put_step.ensures))
