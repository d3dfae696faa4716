use Rattle.usuba_walk.proofs.Taking.{passed_on}
use Rattle.usuba_walk.proofs.Whole.{node-after, node-items_fault}
use Rattle.usuba_walk.proofs.definition.walk_node.Goals as goal

pub returns-in_err-walk_items-clause-stops : goal.returns-in_err-walk_items-clause-stops
returns-in_err-walk_items-clause-stops c =
    passed_on c.from_residual-in_err-walk_items.result c.walk_items.result _ c.from_residual-in_err-walk_items.ensures.1 c.in_err-walk_items.was
    (λ f known. node-items_fault c.args.width c.args.earlier.now c.args.node.now c.in_ok-progress.progress c.in_ok-variables.variables c.new-counters.result.items c.as_slice.result.now f known
    c.in_ok-variables.ensures c.new-counters.ensures.items c.as_slice.ensures c.in_ok-progress.ensures.after) c.walk_items.ensures.stops

pub returns-clause-after : goal.returns-clause-after
returns-clause-after c =
    node-after c.args.width c.args.earlier.now c.args.node.now c.in_ok-progress.progress c.walk_items.new.progress c.in_ok-variables.variables c.new-counters.result.items c.as_slice.result.now
    c.in_ok-walk_items.ensures.takes c.in_ok-variables.ensures c.new-counters.ensures.items c.as_slice.ensures c.in_ok-progress.ensures.after
