use Rattle.std.proofs.Common.{◌<◌, ◌≤◌, ℕ, length}
use Rattle.gf2_span.specs.Echelon.{lead_at}
use Rattle.gf2_span.proofs.span.bracket.Given as goal

abbrev pub invariant-loop-step : goal.invariant-loop-step
invariant-loop-step l = record {
  fewer : l.high ≤ l.most;
  some : 0 < l.step;
  past : (k : ℕ) → l.high ≤ k → k < length l.leads.items → l.c < (lead_at l.leads.items k).column;
}

abbrev pub decreases-loop-step : goal.decreases-loop-step
decreases-loop-step l = l.high
