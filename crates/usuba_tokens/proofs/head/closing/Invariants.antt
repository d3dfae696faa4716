use Rattle.std.proofs.Common.{◌≡◌, ◌+◌, drop}
use Rattle.std.specs.Option.{option_map}
use Rattle.usuba_tokens.specs.Heads.{closing}
use Rattle.usuba_tokens.proofs.head.closing.Given as goal

abbrev pub invariant-loop-at : goal.invariant-loop-at
invariant-loop-at l = closing l.last l.text ≡ option_map (λ n. l.at + n) (closing l.last (drop l.at l.text))
