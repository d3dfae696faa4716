use Rattle.std.proofs.Common.{refl}
use Rattle.tor_edge.proofs.Writing.{Wrote-is, Wrote-then, Wrote-stops}
use Rattle.c_text.proofs.Joining.{call_is}
use Rattle.c_text.proofs.call.put_call.Goals as goal

pub returns-in_err-put_pieces : goal.returns-in_err-put_pieces
returns-in_err-put_pieces g c =
    Wrote-is (call_is c.args.call.now c.as_str.result.now _ c.as_str.ensures refl)
    (Wrote-stops _ c.in_err-put_pieces.ensures c.from_residual.ensures.0)

pub returns-in_err-put_arguments : goal.returns-in_err-put_arguments
returns-in_err-put_arguments g c =
    Wrote-is (call_is c.args.call.now c.as_str.result.now c.as_slice.result.now c.as_str.ensures c.as_slice.ensures)
    (Wrote-then c.in_ok-put_pieces.ensures
    (Wrote-stops _ c.in_err-put_arguments.ensures c.from_residual-in_err-put_arguments.ensures.0))

pub returns : goal.returns
returns g c =
    Wrote-is (call_is c.args.call.now c.as_str.result.now c.as_slice.result.now c.as_str.ensures c.as_slice.ensures)
    (Wrote-then c.in_ok-put_pieces.ensures (Wrote-then c.in_ok-put_arguments.ensures c.put_text.ensures.wrote))
