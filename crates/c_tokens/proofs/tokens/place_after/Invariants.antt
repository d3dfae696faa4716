use Rattle.std.proofs.Common.{◌≡◌, ◌≤◌, ◌+◌, take}
use Rattle.usuba_tokens.specs.Tokens.{place_after}
use Rattle.c_tokens.proofs.tokens.place_after.Given as goal

abbrev pub invariant-loop-b : goal.invariant-loop-b
invariant-loop-b l = record {
  so_far : l.at ≡ place_after l.fn.at (take l.b-index l.text);
  line : l.at.line ≤ l.fn.at.line + l.b-index;
  column : l.at.column ≤ l.fn.at.column + l.b-index;
}
