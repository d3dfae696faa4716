use Rattle.std.proofs.Common.{refl}
use Rattle.tor_edge.proofs.Writing.{Wrote-is, Wrote-then, Wrote-stops}
use Rattle.c_text.proofs.Joining.{gadget_is}
use Rattle.c_text.proofs.gadget.put_gadget.Goals as goal

pub returns-in_err-put_pieces : goal.returns-in_err-put_pieces
returns-in_err-put_pieces g c =
    Wrote-is (gadget_is c.args.gadget.now c.as_str.result.now _ _ c.as_str.ensures refl refl)
    (Wrote-stops _ c.in_err-put_pieces.ensures c.from_residual.ensures.0)

pub returns-in_err-put_parameters : goal.returns-in_err-put_parameters
returns-in_err-put_parameters g c =
    Wrote-is (gadget_is c.args.gadget.now c.as_str.result.now c.as_slice.result.now _ c.as_str.ensures
    c.as_slice.ensures refl)
    (Wrote-then c.in_ok-put_pieces.ensures
    (Wrote-stops _ c.in_err-put_parameters.ensures c.from_residual-in_err-put_parameters.ensures.0))

pub returns-in_err-put_text : goal.returns-in_err-put_text
returns-in_err-put_text g c =
    Wrote-is (gadget_is c.args.gadget.now c.as_str.result.now c.as_slice.result.now _ c.as_str.ensures
    c.as_slice.ensures refl)
    (Wrote-then c.in_ok-put_pieces.ensures
    (Wrote-then c.in_ok-put_parameters.ensures
    (Wrote-stops _ c.in_err-put_text.ensures.wrote c.from_residual-in_err-put_text.ensures.0)))

pub returns-in_err-put_statements : goal.returns-in_err-put_statements
returns-in_err-put_statements g c =
    Wrote-is
    (gadget_is c.args.gadget.now c.as_str.result.now c.as_slice.result.now c.as_slice-2.result.now c.as_str.ensures
    c.as_slice.ensures c.as_slice-2.ensures)
    (Wrote-then c.in_ok-put_pieces.ensures
    (Wrote-then c.in_ok-put_parameters.ensures
    (Wrote-then c.in_ok-put_text.ensures.wrote
    (Wrote-stops _ c.in_err-put_statements.ensures c.from_residual-in_err-put_statements.ensures.0))))

pub returns : goal.returns
returns g c =
    Wrote-is
    (gadget_is c.args.gadget.now c.as_str.result.now c.as_slice.result.now c.as_slice-2.result.now c.as_str.ensures
    c.as_slice.ensures c.as_slice-2.ensures)
    (Wrote-then c.in_ok-put_pieces.ensures
    (Wrote-then c.in_ok-put_parameters.ensures
    (Wrote-then c.in_ok-put_text.ensures.wrote
    (Wrote-then c.in_ok-put_statements.ensures c.put_text-2.ensures.wrote))))
