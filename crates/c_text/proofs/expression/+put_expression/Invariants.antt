use Rattle.c_text.proofs.expression.+put_expression.Given as goal

abbrev pub decreases-put_expression : goal.decreases-put_expression
decreases-put_expression g l = goal.size-put_expression g l
