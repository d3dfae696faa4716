use Rattle.std.proofs.Common.{◌≡◌, ◌^◌, ◌<◌, arith}
use Rattle.text_lines.specs.Numbers.{value_of}
use Rattle.text_lines.proofs.NumberLemmas.{value_step, too_big_after, value_at_end}
use Rattle.text_lines.proofs.number.number_value.Goals as goal

pub returns-in-None : goal.returns-in-None
returns-in-None c = too_big_after c.args.word.now c.loop-digit.digit-index c.loop-digit.value c.loop-digit-test.true c.loop-digit.invariant.so_far c.in-None.ensures

pub loop-digit-preserved : goal.loop-digit-preserved
loop-digit-preserved c =
    record {
      so_far = value_step c.args.word.now c.loop-digit.digit-index c.loop-digit.value c.in-Some.more c.loop-digit-test.true c.loop-digit.invariant.so_far c.in-Some.ensures.1;
      small = omega (arith, c.in-Some.ensures.0, c.in-Some.ensures.1);
    }

pub returns : goal.returns
returns c =
    let whole : c.loop-digit.value ≡ value_of c.args.word.now =
    value_at_end c.args.word.now c.loop-digit.digit-index c.loop-digit.value c.loop-digit-test.false c.loop-digit.invariant.so_far in
    let small : c.loop-digit.value < 2 ^ 64 = c.loop-digit.invariant.small in
    (omega (arith, whole, small), whole)
