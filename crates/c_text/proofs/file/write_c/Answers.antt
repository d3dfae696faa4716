use Rattle.std.proofs.Common.{refl}
use Rattle.tor_edge.proofs.Writing.{Wrote-is, Wrote-then, Wrote-stops}
use Rattle.c_text.proofs.Joining.{c_text_parts}
use Rattle.c_text.proofs.file.write_c.Goals as goal

pub returns-in_err-put_head : goal.returns-in_err-put_head
returns-in_err-put_head g c =
    Wrote-is (c_text_parts c.args.file.now _ _ refl refl)
    (Wrote-stops _ c.in_err-put_head.ensures c.from_residual.ensures.0)

pub returns-in_err-put_gadgets : goal.returns-in_err-put_gadgets
returns-in_err-put_gadgets g c =
    Wrote-is (c_text_parts c.args.file.now c.as_slice.result.now _ c.as_slice.ensures refl)
    (Wrote-then c.in_ok-put_head.ensures
    (Wrote-stops _ c.in_err-put_gadgets.ensures c.from_residual-in_err-put_gadgets.ensures.0))

pub returns-in_err-put_start : goal.returns-in_err-put_start
returns-in_err-put_start g c =
    Wrote-is (c_text_parts c.args.file.now c.as_slice.result.now _ c.as_slice.ensures refl)
    (Wrote-then c.in_ok-put_head.ensures
    (Wrote-then c.in_ok-put_gadgets.ensures
    (Wrote-stops _ c.in_err-put_start.ensures c.from_residual-in_err-put_start.ensures.0)))

pub returns-in_err-put_calls : goal.returns-in_err-put_calls
returns-in_err-put_calls g c =
    Wrote-is (c_text_parts c.args.file.now c.as_slice.result.now c.as_slice-2.result.now c.as_slice.ensures
    c.as_slice-2.ensures)
    (Wrote-then c.in_ok-put_head.ensures
    (Wrote-then c.in_ok-put_gadgets.ensures
    (Wrote-then c.in_ok-put_start.ensures
    (Wrote-stops _ c.in_err-put_calls.ensures c.from_residual-in_err-put_calls.ensures.0))))

pub returns : goal.returns
returns g c =
    Wrote-is (c_text_parts c.args.file.now c.as_slice.result.now c.as_slice-2.result.now c.as_slice.ensures
    c.as_slice-2.ensures)
    (Wrote-then c.in_ok-put_head.ensures
    (Wrote-then c.in_ok-put_gadgets.ensures
    (Wrote-then c.in_ok-put_start.ensures (Wrote-then c.in_ok-put_calls.ensures c.put_text.ensures.wrote))))
