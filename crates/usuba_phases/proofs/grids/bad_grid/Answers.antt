use Rattle.std.proofs.Common.{sym, ap, ◌∙◌, arith}
use Rattle.usuba_phases.specs.State.Phases.{grid_fault_in}
use Rattle.usuba_phases.proofs.Entering.{grid_fault-is}
use Rattle.usuba_phases.proofs.FirstSome.{first_some, loop-step, loop-end}
use Rattle.usuba_phases.proofs.grids.bad_grid.Goals as goal

pub loop-definition-preserved : goal.loop-definition-preserved
loop-definition-preserved c =
    loop-step grid_fault_in c.as_slice-definition-items.result.now c.loop-definition.definition-index
    c.definition-item.result c.loop-definition.fault c.check_grid.result c.or-fault.result _
    (omega arith) c.definition-item.is c.check_grid.ensures c.or-fault.ensures c.loop-definition.invariant

pub returns : goal.returns
returns c =
    loop-end grid_fault_in c.as_slice-definition-items.result.now c.loop-definition.definition-index
    c.loop-definition.fault _ (omega arith) c.loop-definition.invariant
    ∙ ap (first_some grid_fault_in) c.as_slice-definition-items.ensures ∙ sym (grid_fault-is c.args.file.now.defs)
