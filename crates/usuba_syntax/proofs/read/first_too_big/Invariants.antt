use Rattle.std.proofs.Common.{◌<◌, ℕ}
use Rattle.usuba_syntax.specs.Sources as sources
use Rattle.usuba_syntax.proofs.read.first_too_big.Given as goal

abbrev pub invariant-loop-at : goal.invariant-loop-at
invariant-loop-at l = (k : ℕ) → k < l.at → ¬ sources.IsNumberTooBig l.tokens k
