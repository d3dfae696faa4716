use Rattle.std.proofs.Common.{◌≡◌, ◌<◌, ℕ, [], length}
use Rattle.tightprove.specs.Classes.{class_at}
use Rattle.tightprove.proofs.gathered.clear_partners.Given as goal

abbrev pub invariant-loop-i : goal.invariant-loop-i
invariant-loop-i l =
    record {
      same : length l.list.items ≡ length l.initial.list.items;
      rows : (k : ℕ) → (class_at l.list.items k).rows ≡ (class_at l.initial.list.items k).rows;
      none : (k : ℕ) → k < l.i → (class_at l.list.items k).partners ≡ [];
    }
