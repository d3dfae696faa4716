use Rattle.std.proofs.Common.{◌≤◌, ◌+◌, ◌^◌, length}
use Rattle.c_tokens.proofs.SpellingLemmas.{Completes}
use Rattle.c_tokens.proofs.tokens.tokens_of.Given as goal

-- what the rest spells completes the tokens so far
abbrev pub invariant-loop-ending : goal.invariant-loop-ending
invariant-loop-ending l = record {
  spelled : Completes l.fn.start l.fn.text l.tokens l.place l.rest;
  line : l.place.line + length l.rest ≤ 2 ^ 31 + 8;
  column : l.place.column + length l.rest ≤ 2 ^ 31 + 8;
}

abbrev pub decreases-loop-ending : goal.decreases-loop-ending
decreases-loop-ending l = length l.rest
