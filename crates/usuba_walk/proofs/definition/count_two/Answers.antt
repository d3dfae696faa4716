use Rattle.std.proofs.Common.{arith}
use Rattle.usuba_walk.proofs.Whole.{all_elements-append}
use Rattle.usuba_walk.proofs.definition.count_two.Goals as goal

pub returns-in_err-first : goal.returns-in_err-first
returns-in_err-first c = rw c.from_residual.ensures (omega (arith, all_elements-append c.args.first.now c.args.second.now, c.in_err-first.ensures))

pub returns-in_err-second : goal.returns-in_err-second
returns-in_err-second c = rw c.from_residual-in_err-second.ensures (omega (arith, all_elements-append c.args.first.now c.args.second.now, c.in_err-second.ensures))

pub returns-then-count-gt-MOST_OPERATIONS : goal.returns-then-count-gt-MOST_OPERATIONS
returns-then-count-gt-MOST_OPERATIONS c =
    omega (arith, all_elements-append c.args.first.now c.args.second.now, c.in_ok-first.ensures.0, c.in_ok-second.ensures.0, c.if-count-gt-MOST_OPERATIONS.true)

pub returns-else-count-gt-MOST_OPERATIONS : goal.returns-else-count-gt-MOST_OPERATIONS
returns-else-count-gt-MOST_OPERATIONS c =
    (omega (arith, all_elements-append c.args.first.now c.args.second.now, c.in_ok-first.ensures.0, c.in_ok-second.ensures.0), omega (arith, c.if-count-gt-MOST_OPERATIONS.false))
