use Rattle.std.proofs.Common.{◌+◌, ◌*◌}
use Rattle.c_trees.proofs.expressions.+nested.Given as goal

abbrev pub decreases-expression : goal.decreases-expression
decreases-expression l = 2 * l.room

abbrev pub decreases-in_brackets : goal.decreases-in_brackets
decreases-in_brackets l = 2 * l.room + 1
