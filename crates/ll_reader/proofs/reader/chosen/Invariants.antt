use Rattle.std.proofs.Common.{ℕ, ◌<◌}
use Rattle.ll_reader.specs.Private.Choice.{GoesOn}
use Rattle.ll_reader.proofs.reader.chosen.Given as goal

-- no production before this one goes on
abbrev pub invariant-loop-k : goal.invariant-loop-k
invariant-loop-k l = (j : ℕ) → j < l.k → ¬ GoesOn l.table l.rule l.class j
