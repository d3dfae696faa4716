use Rattle.std.proofs.Common.{◌≡◌, ◌||◌, drop}
use Rattle.ready_order.specs.State.Marks.{all_marked, has_marked}
use Rattle.ready_order.proofs.marks.mark_all.Given as goal

abbrev pub invariant-loop-cell : goal.invariant-loop-cell
invariant-loop-cell l = record {
  again : (l.again || has_marked l.marks.items (drop l.cell-index l.cells)) ≡ has_marked l.initial.marks.items l.cells;
  marked : all_marked l.marks.items (drop l.cell-index l.cells) ≡ all_marked l.initial.marks.items l.cells;
}
