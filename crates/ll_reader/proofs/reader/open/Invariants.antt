use Rattle.std.proofs.Common.{◌≡◌, ◌++◌, map, reverse, drop}
use Rattle.ll_reader.specs.Derivation.{items}
use Rattle.ll_reader.proofs.reader.open.Given as goal

-- the items from `at` on stand on top of what was due
abbrev pub invariant-loop-at : goal.invariant-loop-at
invariant-loop-at l =
    reverse l.due.items ≡ map (λ item. (item, l.inside)) (drop l.at (items l.production)) ++ reverse l.initial.due.items
