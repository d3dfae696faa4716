use Rattle.std.proofs.Common.{◌+◌, ◌++◌, suc, take, drop, ap, ◌∙◌}
use Rattle.tor_edge.proofs.Writing.{Wrote-is, Wrote-then, Wrote-stops, Wrote-ok}
use Rattle.share_trial.specs.TrialText.{output_text, outputs_text}
use Rattle.share_trial.specs.declared.trials.TrialOutput.{TrialOutput}
use Rattle.share_trial.proofs.Lines.{lines-more, lines-around}
use Rattle.share_trial.proofs.text.put_outputs.Goals as goal

pub returns-in_err-put_output : goal.returns-in_err-put_output
returns-in_err-put_output g c =
    let os = c.args.outputs.now in
    let k = c.loop-k.k in
    let item = c.index-outputs-k.result in
    Wrote-is
    (ap (λ (o : TrialOutput). outputs_text 0 (take k os) ++ (output_text k o ++ outputs_text (suc k) (drop (k + 1) os))) c.index-outputs-k.is
    ∙ lines-around os k item c.loop-k-test.true)
    (Wrote-then c.loop-k.invariant (Wrote-stops (outputs_text (suc k) (drop (k + 1) os)) c.in_err-put_output.ensures c.from_residual.ensures.0))

pub loop-k-preserved : goal.loop-k-preserved
loop-k-preserved g c =
    let os = c.args.outputs.now in
    let k = c.loop-k.k in
    let item = c.index-outputs-k.result in
    Wrote-is
    (ap (λ (o : TrialOutput). outputs_text 0 (take k os) ++ output_text k o) c.index-outputs-k.is ∙ lines-more os k item c.loop-k-test.true)
    (Wrote-then c.loop-k.invariant (Wrote-ok _ _ c.in_ok-put_output.ensures))
