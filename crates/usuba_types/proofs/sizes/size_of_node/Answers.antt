use Rattle.std.proofs.Common.{arith}
use Rattle.usuba_types.proofs.Adding.{instance-step, node-end}
use Rattle.usuba_types.proofs.sizes.size_of_node.Goals as goal

pub loop-k-preserved : goal.loop-k-preserved
loop-k-preserved c =
    instance-step c.args.known.now c.args.table.now.done c.loop-k.k c.operations.result.now c.loop-k.size c.with_code-size.result _
    (omega (arith, c.len-k-end.ensures)) c.operations.ensures c.with_code-size.ensures c.loop-k.invariant

pub returns : goal.returns
returns c =
    node-end c.args.known.now c.args.count c.args.table.now.done c.loop-k.k c.loop-k.size (omega (arith, c.len-k-end.ensures)) (omega arith)
    c.loop-k.invariant
