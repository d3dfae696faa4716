use Rattle.std.proofs.Common.{◌<◌, length, arith}
use Rattle.usuba_code.specs.Code.{coded_at}
use Rattle.ready_order.specs.Numbered.{left_numbers}
use Rattle.ready_order.specs.State.Marks.{first_marked}
use Rattle.ready_order.proofs.StepLemmas.{target_loop, missed_loop}
use Rattle.ready_order.proofs.twice.first_again.Goals as goal

pub loop-j-preserved : goal.loop-j-preserved
loop-j-preserved c =
    let within : c.loop-j.j < length (coded_at c.args.table.now.done c.args.k).targets = omega (arith, c.targets-j-end.ensures) in
    record {
      found = missed_loop c.loop-j.marks.items c.mark_all.new.marks.items (coded_at c.args.table.now.done c.args.k).targets c.loop-j.j
          c.cells.result.now (first_marked c.args.marks.now.items (coded_at c.args.table.now.done c.args.k).targets) within c.cells.ensures
          c.if-mark_all.ensures.again c.mark_all.ensures.marked c.loop-j.invariant.found;
      marked = target_loop c.loop-j.marks.items c.mark_all.new.marks.items c.args.marks.now.items
          (coded_at c.args.table.now.done c.args.k).targets c.loop-j.j c.cells.result.now
          (left_numbers (coded_at c.args.table.now.done c.args.k)) within c.cells.ensures c.mark_all.ensures.marked c.loop-j.invariant.marked;
    }
