use Rattle.std.proofs.Common.{◌≡◌, ◌≤◌, ◌<◌, ℕ, Some, slice_get, get_or, length}
use Rattle.ll_reader.specs.declared.grammar.Production.{Production}
use Rattle.ll_reader.proofs.reader.first_of_rules.Given as goal

abbrev pub invariant-loop-k : goal.invariant-loop-k
invariant-loop-k l =
    (length l.firsts ≡ 256) × ((j : ℕ) (p : Production) → slice_get l.table j ≡ Some p → j < l.k → get_or l.firsts p.rule 0 ≤ j)
