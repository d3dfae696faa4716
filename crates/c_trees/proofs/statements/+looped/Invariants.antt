use Rattle.std.proofs.Common.{◌≡◌, ◌+◌, ◌-◌, ◌*◌, length}
use Rattle.c_trees.specs.State.Making.{items_of, closes, stmt_of, stmts_of}
use Rattle.c_trees.proofs.Looping.{joined}
use Rattle.c_trees.proofs.statements.+looped.Given as goal

abbrev pub decreases-statements : goal.decreases-statements
decreases-statements l = 3 * l.loops + 2

abbrev pub decreases-statement : goal.decreases-statement
decreases-statement l = 3 * l.loops + 1

abbrev pub decreases-inner : goal.decreases-inner
decreases-inner l = 3 * l.loops + 3

abbrev pub invariant-statements-loop : goal.invariant-statements-loop
invariant-statements-loop l = record {
  so_far : joined l.made (items_of closes (stmt_of l.loops) (length l.text - l.counter) l.rest) ≡ stmts_of l.loops l.text;
  end : l.end ≡ length l.text;
}
