use Rattle.std.proofs.Common.{inl, inr, arith}
use Rattle.std.proofs.lemmas.Bool.{cases_lt, OnTrue_at}
use Rattle.gf2_span.proofs.words.skipped.Goals as goal

pub loop-at-preserved : goal.loop-at-preserved
loop-at-preserved c = record {
  within = omega arith;
  past = omega (arith, c.loop-at.invariant.past);
  zero = λ k low high. elim (cases_lt k c.loop-at.at) [
    | inl before ↦ c.loop-at.invariant.zero k low before
    | inr here ↦ OnTrue_at c.if-lanes_are_zero.true c.lanes_are_zero.ensures k here high
  ];
}
