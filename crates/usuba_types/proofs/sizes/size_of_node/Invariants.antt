use Rattle.std.proofs.Common.{◌≡◌, drop}
use Rattle.usuba_types.specs.Sizes.{all_callees}
use Rattle.usuba_types.specs.State.Adding.{after_calls}
use Rattle.usuba_types.proofs.sizes.size_of_node.Given as goal

abbrev pub invariant-loop-k : goal.invariant-loop-k
invariant-loop-k l =
    after_calls l.known l.size (all_callees (drop l.k l.table.done))
    ≡ after_calls l.known (record { operations = l.count; chain = 0 }) (all_callees l.table.done)
