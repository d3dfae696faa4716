use Rattle.std.proofs.Common.{inl, inr, arith}
use Rattle.std.proofs.lemmas.Bool.{cases_lt, OnTrue_at}
use Rattle.gf2_span.proofs.words.trimmed.Goals as goal

pub loop-at-preserved : goal.loop-at-preserved
loop-at-preserved c = record {
  within = omega (arith, c.loop-at.invariant.within);
  zero = λ k low high. elim (cases_lt k c.loop-at.at) [
    | inl here ↦ OnTrue_at c.if-lanes_are_zero.true c.lanes_are_zero.ensures k low (omega (arith, c.loop-at-test.true))
    | inr past ↦ c.loop-at.invariant.zero k past high
  ];
}
