use Rattle.std.proofs.Common.{sym, ◌∙◌, arith}
use Rattle.usuba_tokens.proofs.NumberLemmas.{overflows, settled}
use Rattle.c_tokens.proofs.number.number_value.Goals as goal

pub returns-in_err-checked_mul : goal.returns-in_err-checked_mul
returns-in_err-checked_mul c =
    c.from_residual.ensures ∙ sym (overflows 10 c.args.digits.now c.loop-digit.digit-index c.loop-digit.value (omega arith)
    c.loop-digit-test.true c.loop-digit.invariant.so_far (λ fits. c.in_err-checked_mul.ensures (omega arith)))

pub returns-in_err-value : goal.returns-in_err-value
returns-in_err-value c =
    let product = c.in_ok-checked_mul.ensures in
    let added = c.in_err-value.ensures in
    let digit = c.digit_value.ensures in
    c.from_residual-in_err-value.ensures ∙ sym (overflows 10 c.args.digits.now c.loop-digit.digit-index c.loop-digit.value
    (omega arith) c.loop-digit-test.true c.loop-digit.invariant.so_far (λ fits. added (omega arith)))

pub returns : goal.returns
returns c =
    settled 10 c.args.digits.now c.loop-digit.digit-index c.loop-digit.value c.loop-digit.auto.digit-index-end
    c.loop-digit-test.false c.loop-digit.invariant.fits c.loop-digit.invariant.so_far
