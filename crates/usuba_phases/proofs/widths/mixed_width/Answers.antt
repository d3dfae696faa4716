use Rattle.std.proofs.Common.{sym, ap, ◌∙◌, arith}
use Rattle.usuba_phases.proofs.Entering.{mixed_declared, mixed_faults-all}
use Rattle.usuba_phases.proofs.FirstSome.{first_some, loop-step, loop-end}
use Rattle.usuba_phases.proofs.widths.mixed_width.Goals as goal

pub loop-definition-preserved : goal.loop-definition-preserved
loop-definition-preserved c =
    loop-step (mixed_declared c.args.width) c.as_slice-definition-items.result.now c.loop-definition.definition-index
    c.definition-item.result c.loop-definition.fault c.check_definition.result c.or-fault.result _
    (omega arith) c.definition-item.is c.check_definition.ensures c.or-fault.ensures c.loop-definition.invariant

pub returns : goal.returns
returns c =
    loop-end (mixed_declared c.args.width) c.as_slice-definition-items.result.now c.loop-definition.definition-index
    c.loop-definition.fault _ (omega arith) c.loop-definition.invariant
    ∙ ap (first_some (mixed_declared c.args.width)) c.as_slice-definition-items.ensures
    ∙ sym (mixed_faults-all c.args.width c.args.file.now.defs)
