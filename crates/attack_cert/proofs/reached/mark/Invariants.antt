use Rattle.std.proofs.Common.{◌≡◌, ◌<◌, ◌⊎◌, ℕ, length, get_or}
use Rattle.attack_cert.proofs.Marks.{IsMarked}
use Rattle.attack_cert.proofs.reached.mark.Given as goal

abbrev pub invariant-loop-place : goal.invariant-loop-place
invariant-loop-place l = record {
  count : length l.needed.items ≡ length l.initial.needed.items;
  marked : (k : ℕ) → k < l.place-index → IsMarked l.needed.items (get_or l.places k 0);
  others : (place : ℕ) → IsMarked l.needed.items place → IsMarked l.initial.needed.items place ⊎ ((k : ℕ) × (k < l.place-index) × (get_or l.places k 0 ≡ place));
  still : (place : ℕ) → IsMarked l.initial.needed.items place → IsMarked l.needed.items place;
}
