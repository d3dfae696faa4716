use Rattle.std.proofs.Common.{sym, ◌∙◌, arith}
use Rattle.usuba_phases.proofs.Entering.{width_in, first_width-is}
use Rattle.usuba_phases.proofs.FirstSome.{loop-step, loop-end}
use Rattle.usuba_phases.proofs.widths.first_width.Goals as goal

pub loop-declaration-preserved : goal.loop-declaration-preserved
loop-declaration-preserved c =
    loop-step width_in c.args.declarations.now c.loop-declaration.declaration-index c.declaration-item.result
    c.loop-declaration.width c.base_width.result c.or-width.result _
    (omega arith) c.declaration-item.is c.base_width.ensures c.or-width.ensures c.loop-declaration.invariant

pub returns : goal.returns
returns c =
    loop-end width_in c.args.declarations.now c.loop-declaration.declaration-index c.loop-declaration.width _
    (omega arith) c.loop-declaration.invariant
    ∙ sym (first_width-is c.args.declarations.now)
