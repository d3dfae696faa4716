use Rattle.tor_edge.proofs.Writing.{Wrote-is, Wrote-then, Wrote-stops}
use Rattle.c_text.proofs.Joining.{assignment_is}
use Rattle.c_text.proofs.statement.put_assignment.Goals as goal

pub returns-in_err-put_cell : goal.returns-in_err-put_cell
returns-in_err-put_cell g c =
    Wrote-is (assignment_is c.args.depth c.blanks.result.now c.args.array.now c.args.index.now c.args.value.now
    c.blanks.ensures)
    (Wrote-stops _ c.in_err-put_cell.ensures c.from_residual.ensures.0)

pub returns-in_err-put_expression : goal.returns-in_err-put_expression
returns-in_err-put_expression g c =
    Wrote-is (assignment_is c.args.depth c.blanks.result.now c.args.array.now c.args.index.now c.args.value.now
    c.blanks.ensures)
    (Wrote-then c.in_ok-put_cell.ensures
    (Wrote-stops _ c.in_err-put_expression.ensures c.from_residual-in_err-put_expression.ensures.0))

pub returns : goal.returns
returns g c =
    Wrote-is (assignment_is c.args.depth c.blanks.result.now c.args.array.now c.args.index.now c.args.value.now
    c.blanks.ensures)
    (Wrote-then c.in_ok-put_cell.ensures (Wrote-then c.in_ok-put_expression.ensures c.put_text.ensures.wrote))
