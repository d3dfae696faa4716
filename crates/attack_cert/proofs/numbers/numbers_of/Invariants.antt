use Rattle.std.proofs.Common.{◌≡◌, ◌<◌, ℕ, length, get_or}
use Rattle.attack_cert.specs.Kept.{kept_places}
use Rattle.attack_cert.proofs.numbers.numbers_of.Given as goal

abbrev pub invariant-loop-number : goal.invariant-loop-number
invariant-loop-number l = record {
  count : length l.numbers.items ≡ l.places;
  numbers : (k : ℕ) → k < l.number → get_or l.numbers.items (get_or (kept_places l.kept) k 0) 0 ≡ k;
}
