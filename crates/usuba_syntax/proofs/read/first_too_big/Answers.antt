use Rattle.std.proofs.Common.{◌≡◌, true, false, below_more, arith}
use Rattle.usuba_syntax.proofs.Places.{not_too_big, none_too_big}
use Rattle.usuba_syntax.proofs.read.first_too_big.Goals as goal

pub loop-at-preserved : goal.loop-at-preserved
loop-at-preserved c =
    below_more _ _ c.loop-at.invariant
    (not_too_big c.args.tokens.now c.loop-at.at c.index-tokens-at.result c.index-tokens-at.is
    (λ big. let yes : c.is_too_big.result ≡ true = c.is_too_big.ensures.1 big in let no : c.is_too_big.result ≡ false = c.if-is_too_big.false in absurd (cc)))

pub returns-clause-none : goal.returns-clause-none
returns-clause-none c = none_too_big c.args.tokens.now c.loop-at.at (omega arith) c.loop-at.invariant
