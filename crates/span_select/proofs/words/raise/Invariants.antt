use Rattle.std.proofs.Common.{◌≡◌, ◌≤◌, ◌*◌, ◌-◌, length}
use Rattle.span_model.specs.Columns.{set_of}
use Rattle.span_select.proofs.Growing.{IsRaising}
use Rattle.span_select.proofs.words.raise.Given as goal

abbrev pub invariant-loop-c : goal.invariant-loop-c
invariant-loop-c l = record {
  columns : length l.word ≡ 2 * length l.row;
  within : l.start ≤ length l.row;
  raising : IsRaising (length l.row) (set_of l.row) l.start (set_of l.word);
}

abbrev pub decreases-loop-c : goal.decreases-loop-c
decreases-loop-c l = length l.row - l.start
