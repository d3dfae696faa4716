use Rattle.std.proofs.Common.{◌^◌, arith}
use Rattle.usuba_cells.proofs.Numbered.{raised-start, raised-here, raised-next, raised-none, below-in_slice}
use Rattle.usuba_cells.proofs.picking.raise.Goals as goal

pub loop-at-init : goal.loop-at-init
loop-at-init c = raised-start c.args.by c.args.numbers.now c.args.start

pub overflow_add-numbers : goal.overflow_add-numbers
overflow_add-numbers c =
    let at = c.loop-at.at in
    let same = raised-here c.args.by c.args.numbers.now c.loop-at.numbers c.args.start at 0 (omega arith) (omega arith) c.loop-at.invariant in
    let small = below-in_slice (2 ^ 31) c.args.numbers.now c.args.start c.args.end at c.requires.small (omega arith) (omega arith) c.requires.within in
    omega (arith, same, small, c.requires.few)

pub loop-at-preserved : goal.loop-at-preserved
loop-at-preserved c =
    raised-next c.args.by c.args.numbers.now c.loop-at.numbers c.args.start c.loop-at.at (omega arith) (omega arith) c.loop-at.invariant

pub returns-then-by-eq0 : goal.returns-then-by-eq0
returns-then-by-eq0 c = raised-none c.args.by c.args.numbers.now c.args.start c.args.end c.requires.order c.if-by-eq0.true
