use Rattle.std.proofs.Common.{refl}
use Rattle.tor_edge.proofs.Writing.{Wrote-is, Wrote-then, Wrote-stops}
use Rattle.share_trial.proofs.Lines.{text_parts}
use Rattle.share_trial.proofs.text.write_trial.Goals as goal

pub returns-in_err-put_head : goal.returns-in_err-put_head
returns-in_err-put_head g c =
    Wrote-is (text_parts c.args.trial.now c.args.trial.now.outputs refl) (Wrote-stops _ c.in_err-put_head.ensures c.from_residual.ensures.0)

pub returns : goal.returns
returns g c =
    Wrote-is (text_parts c.args.trial.now c.as_slice.result.now c.as_slice.ensures)
    (Wrote-then c.in_ok-put_head.ensures c.put_outputs.ensures)
