use Rattle.std.proofs.Common.{sym, ◌∙◌}
use Rattle.core_text.proofs.LineLemmas.{one_register}
use Rattle.core_text.proofs.right_side.one_operand.Goals as goal

pub returns-then-is_register : goal.returns-then-is_register
returns-then-is_register c =
    one_register c.args.width c.args.next c.args.line c.args.name.now c.args.a.now c.single.result (sym c.is_register.ensures ∙ c.if-is_register.true) (c.single.ensures c.args.width)
