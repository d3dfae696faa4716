use Rattle.std.proofs.Common.{sym, ◌∙◌, arith}
use Rattle.usuba_phases.proofs.Entering.{mixed_fault, mixed_faults-is}
use Rattle.usuba_phases.proofs.FirstSome.{loop-step, loop-end}
use Rattle.usuba_phases.proofs.widths.check_declarations.Goals as goal

pub loop-declaration-preserved : goal.loop-declaration-preserved
loop-declaration-preserved c =
    loop-step (mixed_fault c.args.width) c.args.declarations.now c.loop-declaration.declaration-index
    c.declaration-item.result c.loop-declaration.fault c.check_declaration.result c.or-fault.result _
    (omega arith) c.declaration-item.is c.check_declaration.ensures c.or-fault.ensures c.loop-declaration.invariant

pub returns : goal.returns
returns c =
    loop-end (mixed_fault c.args.width) c.args.declarations.now c.loop-declaration.declaration-index
    c.loop-declaration.fault _ (omega arith) c.loop-declaration.invariant
    ∙ sym (mixed_faults-is c.args.width c.args.declarations.now)
