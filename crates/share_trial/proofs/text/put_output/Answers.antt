use Rattle.std.proofs.Common.{refl}
use Rattle.tor_edge.proofs.Writing.{Wrote-is, Wrote-then, Wrote-stops}
use Rattle.share_trial.proofs.Lines.{line_parts}
use Rattle.share_trial.proofs.text.put_output.Goals as goal

pub returns-in_err-put_value : goal.returns-in_err-put_value
returns-in_err-put_value g c =
    Wrote-is (line_parts c.args.number c.args.output.now c.args.output.now.shares refl)
    (Wrote-stops _ c.in_err-put_value.ensures c.from_residual.ensures.0)

pub returns-in_err-put_shares : goal.returns-in_err-put_shares
returns-in_err-put_shares g c =
    Wrote-is (line_parts c.args.number c.args.output.now c.as_slice.result.now c.as_slice.ensures)
    (Wrote-then c.in_ok-put_value.ensures (Wrote-stops _ c.in_err-put_shares.ensures c.from_residual-in_err-put_shares.ensures.0))

pub returns : goal.returns
returns g c =
    Wrote-is (line_parts c.args.number c.args.output.now c.as_slice.result.now c.as_slice.ensures)
    (Wrote-then c.in_ok-put_value.ensures (Wrote-then c.in_ok-put_shares.ensures c.put_text.ensures.wrote))
