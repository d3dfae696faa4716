use Rattle.std.proofs.Common.{◌*◌, ◌<◌, ◌≤◌, ◌≡◌, ℕ, false}
use Rattle.gf2_span.specs.Words.{is_set}
use Rattle.gf2_span.proofs.words.last_in_words.Given as goal

abbrev pub invariant-loop-at : goal.invariant-loop-at
invariant-loop-at l = record { within : l.at ≤ l.many; none : (c : ℕ) → 64 * l.at ≤ c → c < 64 * l.many → is_set l.words c ≡ false }

abbrev pub decreases-loop-at : goal.decreases-loop-at
decreases-loop-at l = l.at
