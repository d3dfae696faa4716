use Rattle.std.proofs.Common.{◌<◌, ℕ, get_or}
use Rattle.tightprove.specs.Classes.{IsClean, class_rows}
use Rattle.tightprove.specs.Growth.{AreKnown}
use Rattle.tightprove.proofs.searches.first_leak.Given as goal

abbrev pub invariant-loop-i : goal.invariant-loop-i
invariant-loop-i l = record {
  known : AreKnown l.classes.list.items l.classes.columns l.known.spans.items;
  clean : (k : ℕ) → k < l.i-index → IsClean l.classes.list.items (class_rows l.classes.list.items (get_or l.i-items k 0));
}
