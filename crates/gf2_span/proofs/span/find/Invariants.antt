use Rattle.std.proofs.Common.{◌<◌, ◌≤◌, ◌-◌, ℕ, length}
use Rattle.gf2_span.specs.Echelon.{lead_at}
use Rattle.gf2_span.proofs.span.find.Given as goal

abbrev pub invariant-loop-low : goal.invariant-loop-low
invariant-loop-low l = record {
  order : l.low ≤ l.high;
  fewer : l.high ≤ l.most;
  before : (k : ℕ) → k < l.low → (lead_at l.leads.items k).column < l.c;
  past : (k : ℕ) → l.high ≤ k → k < length l.leads.items → l.c < (lead_at l.leads.items k).column;
}

abbrev pub decreases-loop-low : goal.decreases-loop-low
decreases-loop-low l = l.high - l.low
