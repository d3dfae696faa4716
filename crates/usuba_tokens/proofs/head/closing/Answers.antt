use Rattle.std.proofs.Common.{◌+◌, ap, sym, ◌∙◌}
use Rattle.std.specs.Option.{option_map}
use Rattle.usuba_tokens.proofs.HeadLemmas.{closing-here}
use Rattle.usuba_tokens.proofs.head.closing.Goals as goal

pub returns-then-byte-last-clause-value : goal.returns-then-byte-last-clause-value
returns-then-byte-last-clause-value c =
    sym (c.loop-at.invariant ∙ ap (option_map (λ n. c.loop-at.at + n)) (closing-here c.args.last c.args.text.now c.loop-at.at c.loop-at-test.true c.if-b-eq42.true (sym c.byte.ensures.value ∙ c.if-byte-last.true)))
