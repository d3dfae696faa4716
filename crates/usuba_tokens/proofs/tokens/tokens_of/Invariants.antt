use Rattle.std.proofs.Common.{◌≤◌, ◌+◌, ◌^◌, List, ◌++◌, length}
use Rattle.usuba_tokens.specs.Tokens.{start, Spells}
use Rattle.usuba_tokens.specs.declared.token.Ending.{Ending}
use Rattle.usuba_tokens.specs.declared.token.Token.{Token}
use Rattle.usuba_tokens.proofs.tokens.tokens_of.Given as goal

-- what the rest spells completes the tokens so far
abbrev pub invariant-loop-tokens : goal.invariant-loop-tokens
invariant-loop-tokens l = record {
  spelled : (more : List Token) (end : Ending) → Spells l.place l.rest more end → Spells start l.bytes (l.tokens ++ more) end;
  line : l.place.line + length l.rest ≤ 2 ^ 31 + 1;
  column : l.place.column + length l.rest ≤ 2 ^ 31 + 1;
}

abbrev pub decreases-loop-tokens : goal.decreases-loop-tokens
decreases-loop-tokens l = length l.rest
