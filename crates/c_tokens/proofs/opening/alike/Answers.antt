use Rattle.std.proofs.Common.{sym, ◌∙◌, arith}
use Rattle.c_tokens.proofs.OpeningLemmas.{alike_end}
use Rattle.c_tokens.proofs.opening.alike.Goals as goal

pub returns-else-n-text : goal.returns-else-n-text
returns-else-n-text c =
    sym (c.loop-n.invariant.so_far ∙ alike_end c.args.bytes.now c.args.text.now c.loop-n.n (omega (arith, c.if-n-text.false)))
