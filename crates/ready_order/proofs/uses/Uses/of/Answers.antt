use Rattle.std.proofs.Common.{rules, ◌≡◌, ◌<◌, ◌≤◌, length, replicate, false, arith}
use Rattle.ready_order.proofs.StepLemmas.{assigned_loop, read_loop, assigned_end, read_end, used_is}
use Rattle.ready_order.proofs.uses.Uses.of.Goals as goal

pub loop-k-preserved : goal.loop-k-preserved
loop-k-preserved c =
    let within : c.loop-k.k < length c.args.table.now.done = omega (arith, c.len-k-end.ensures) in
    record {
      assigned = assigned_loop c.loop-k.assigned.items c.mark_left.new.marks.items c.in_ok-assigned.assigned.items c.args.table.now.done
          c.loop-k.k within c.mark_left.ensures c.loop-k.invariant.assigned;
      read = read_loop c.loop-k.read.items c.mark_read.new.marks.items c.in_ok-read.read.items c.args.table.now.done c.loop-k.k
          c.operations.result.now within c.operations.ensures c.mark_read.ensures c.loop-k.invariant.read;
    }

pub returns : goal.returns
returns c =
    let past : length c.args.table.now.done ≤ c.loop-k.k = omega (arith, c.len-k-end.ensures) in
    let assigned_begun : c.in_ok-assigned.assigned.items ≡ replicate c.args.cells false = search rules in
    let read_begun : c.in_ok-read.read.items ≡ replicate c.args.cells false = search rules in
    used_is c.args.cells c.args.table.now.done c.requires c.loop-k.assigned.items c.loop-k.read.items
    (assigned_end c.loop-k.assigned.items c.in_ok-assigned.assigned.items c.args.table.now.done c.loop-k.k c.args.cells past assigned_begun
    c.loop-k.invariant.assigned)
    (read_end c.loop-k.read.items c.in_ok-read.read.items c.args.table.now.done c.loop-k.k c.args.cells past read_begun c.loop-k.invariant.read)
