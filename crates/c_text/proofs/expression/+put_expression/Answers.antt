use Rattle.std.proofs.Common.{sym, ap, ◌∙◌}
use Rattle.tor_edge.proofs.Writing.{Wrote-is, Wrote-then, Wrote-stops}
use Rattle.c_tree.specs.declared.CExpr.TheVariants as e
use Rattle.c_text.proofs.Trees.{expression-random, two_operands}
use Rattle.c_text.proofs.expression.+put_expression.Goals as goal

pub returns-in-Random : goal.returns-in-Random
returns-in-Random g t c = Wrote-is (sym
    (expression-random c.args.expression.now c.in-Random.is)) c.put_word-in-Random.ensures

pub returns-in_err-put_word-in-Two : goal.returns-in_err-put_word-in-Two
returns-in_err-put_word-in-Two g t c =
    Wrote-is (two_operands c.args.expression.now c.in-Two.op c.in-Two.left c.in-Two.right c.in-Two.is)
    (Wrote-stops _ c.in_err-put_word-in-Two.ensures c.from_residual.ensures.0)

pub returns-in_err-put_expression-in-Two : goal.returns-in_err-put_expression-in-Two
returns-in_err-put_expression-in-Two g t c =
    Wrote-is
    (two_operands c.args.expression.now c.in-Two.op c.get.result.now c.in-Two.right
    (c.in-Two.is ∙ ap (λ left. e.Two c.in-Two.op left c.in-Two.right) (sym c.get.ensures)))
    (Wrote-then c.in_ok-put_word-in-Two.ensures
    (Wrote-stops _ c.in_err-put_expression-in-Two.ensures c.from_residual-in_err-put_expression-in-Two.ensures.0))

pub returns-in_err-put_operator-in-Two : goal.returns-in_err-put_operator-in-Two
returns-in_err-put_operator-in-Two g t c =
    Wrote-is
    (two_operands c.args.expression.now c.in-Two.op c.get.result.now c.in-Two.right
    (c.in-Two.is ∙ ap (λ left. e.Two c.in-Two.op left c.in-Two.right) (sym c.get.ensures)))
    (Wrote-then c.in_ok-put_word-in-Two.ensures
    (Wrote-then c.in_ok-put_expression-in-Two.ensures
    (Wrote-stops _ c.in_err-put_operator-in-Two.ensures c.from_residual-in_err-put_operator-in-Two.ensures.0)))

pub returns-in_err-put_expression-in-Two-2 : goal.returns-in_err-put_expression-in-Two-2
returns-in_err-put_expression-in-Two-2 g t c =
    Wrote-is
    (two_operands c.args.expression.now c.in-Two.op c.get.result.now c.get-in-Two.result.now
    (c.in-Two.is ∙ ap (λ left. e.Two c.in-Two.op left c.in-Two.right) (sym c.get.ensures)
    ∙ ap (e.Two c.in-Two.op c.get.result.now) (sym c.get-in-Two.ensures)))
    (Wrote-then c.in_ok-put_word-in-Two.ensures
    (Wrote-then c.in_ok-put_expression-in-Two.ensures
    (Wrote-then c.in_ok-put_operator-in-Two.ensures
    (Wrote-stops _ c.in_err-put_expression-in-Two-2.ensures c.from_residual-in_err-put_expression-in-Two-2.ensures.0))))

pub returns-in_ok-put_expression-in-Two-2 : goal.returns-in_ok-put_expression-in-Two-2
returns-in_ok-put_expression-in-Two-2 g t c =
    Wrote-is
    (two_operands c.args.expression.now c.in-Two.op c.get.result.now c.get-in-Two.result.now
    (c.in-Two.is ∙ ap (λ left. e.Two c.in-Two.op left c.in-Two.right) (sym c.get.ensures)
    ∙ ap (e.Two c.in-Two.op c.get.result.now) (sym c.get-in-Two.ensures)))
    (Wrote-then c.in_ok-put_word-in-Two.ensures
    (Wrote-then c.in_ok-put_expression-in-Two.ensures
    (Wrote-then c.in_ok-put_operator-in-Two.ensures
    (Wrote-then c.in_ok-put_expression-in-Two-2.ensures c.put_word-in-Two-2.ensures))))
