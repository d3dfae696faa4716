use Rattle.std.proofs.Common.{◌<◌, length, arith}
use Rattle.usuba_planner.proofs.Calling.{table_marked}
use Rattle.usuba_planner.proofs.marks.mark_table.Goals as goal

pub loop-k-preserved : goal.loop-k-preserved
loop-k-preserved c =
    let within : c.loop-k.k < length c.args.table.now.done = omega (arith, c.len-k-end.ensures) in
    table_marked c.loop-k.marks.items c.mark_code.new.marks.items c.args.marks.now.items c.args.table.now.done c.loop-k.k c.operations.result.now
    within c.operations.ensures c.mark_code.ensures c.loop-k.invariant
