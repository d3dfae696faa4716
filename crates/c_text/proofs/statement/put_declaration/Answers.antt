use Rattle.tor_edge.proofs.Writing.{Wrote-is, Wrote-then, Wrote-stops}
use Rattle.c_text.proofs.Joining.{declaration_is}
use Rattle.c_text.proofs.statement.put_declaration.Goals as goal

pub returns-in_err-put_declared : goal.returns-in_err-put_declared
returns-in_err-put_declared g c =
    Wrote-is (declaration_is c.args.depth c.args.name.now c.args.value.now)
    (Wrote-stops _ c.in_err-put_declared.ensures c.from_residual.ensures.0)

pub returns-in_err-put_expression : goal.returns-in_err-put_expression
returns-in_err-put_expression g c =
    Wrote-is (declaration_is c.args.depth c.args.name.now c.args.value.now)
    (Wrote-then c.in_ok-put_declared.ensures
    (Wrote-stops _ c.in_err-put_expression.ensures c.from_residual-in_err-put_expression.ensures.0))

pub returns : goal.returns
returns g c =
    Wrote-is (declaration_is c.args.depth c.args.name.now c.args.value.now)
    (Wrote-then c.in_ok-put_declared.ensures (Wrote-then c.in_ok-put_expression.ensures c.put_text.ensures.wrote))
