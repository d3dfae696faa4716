use Rattle.std.proofs.Common.{◌*◌, ◌/◌, ◌-◌, ◌≡◌, get_or, arith}
use Rattle.gf2_span.proofs.Kernels.{last_of_word, none_in_word, zero_unset}
use Rattle.gf2_span.proofs.words.last_in_words.Goals as goal

pub loop-at-init : goal.loop-at-init
loop-at-init c = record {
  within = c.trimmed-at.ensures.within;
  none = λ d low high. zero_unset c.args.words.now d (c.trimmed-at.ensures.zero (d / 64) (omega arith) (omega arith));
}

pub returns-then-word-ne0 : goal.returns-then-word-ne0
returns-then-word-ne0 c =
    last_of_word c.args.words.now (c.loop-at.at - 1) (64 * c.args.many) c.ilog2.result (omega (arith, c.loop-at.invariant.within))
    (λ d low high. c.loop-at.invariant.none d (omega arith) high) c.ilog2.ensures.bound c.ilog2.ensures.power_le c.ilog2.ensures.next_power_gt

pub loop-at-preserved : goal.loop-at-preserved
loop-at-preserved c =
    let zero : get_or c.args.words.now (c.loop-at.at - 1) 0 ≡ 0 = omega arith in
    record {
      within = omega arith;
      none = none_in_word c.args.words.now (c.loop-at.at - 1) (64 * c.args.many) zero (λ d low high. c.loop-at.invariant.none d (omega arith) high);
    }
