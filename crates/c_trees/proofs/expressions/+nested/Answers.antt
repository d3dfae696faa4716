use Rattle.std.proofs.Common.{sym, ◌∙◌, arith}
use Rattle.c_trees.proofs.Choosing.{by_bracket}
use Rattle.c_trees.proofs.Looping.{if_ok}
use Rattle.c_trees.proofs.expressions.+nested.Goals as goal

pub expression-returns-in-Bracket : goal.expression-returns-in-Bracket
expression-returns-in-Bracket t c =
    if_ok c.in_brackets.result
    (λ made is. is ∙ by_bracket c.args.room c.args.text.now (omega (arith, c.if-room-eq0.false)) (sym c.first_of.ensures ∙ c.in-Bracket.is))
    c.in_brackets.ensures
