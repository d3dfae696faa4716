use Rattle.std.proofs.Common.{◌≡◌, true, sym, ◌∙◌, arith}
use Rattle.core_text.specs.Forms.{is_register}
use Rattle.core_text.proofs.LineLemmas.{two_registers}
use Rattle.core_text.proofs.right_side.two_operands.Goals as goal

pub returns-then-is_register : goal.returns-then-is_register
returns-then-is_register c =
    let second : is_register c.args.b.now ≡ true = grind arith in
    two_registers c.args.width c.args.next c.args.line c.args.name.now c.args.a.now c.args.b.now c.pair.result second
    (sym c.is_register-else-not-is_register.ensures ∙ c.if-is_register.true) (c.pair.ensures c.args.width)
