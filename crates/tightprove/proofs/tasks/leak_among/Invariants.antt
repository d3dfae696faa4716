use Rattle.std.proofs.Common.{◌≡◌, length}
use Rattle.gf2_span.specs.Basis.{row_sets}
use Rattle.tightprove.specs.Growth.{AreKnown}
use Rattle.tightprove.specs.Tasks.{HaveColumns, AreInOrder, LeaksArePending, work}
use Rattle.tightprove.proofs.tasks.leak_among.Given as goal

abbrev pub invariant-loop-task : goal.invariant-loop-task
invariant-loop-task l = record {
  columns : length l.scratch ≡ l.classes.columns;
  known : AreKnown l.classes.list.items l.classes.columns l.known.spans.items;
  tasks : HaveColumns l.classes.columns l.tasks.items;
  order : AreInOrder l.classes.list.items l.tasks.items;
  pending : LeaksArePending l.classes.list.items (row_sets l.fn.candidates) l.tasks.items;
}

abbrev pub decreases-loop-task : goal.decreases-loop-task
decreases-loop-task l = work (length l.classes.list.items) l.tasks.items
