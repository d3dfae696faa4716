use Rattle.std.proofs.Common.{◌≡◌, take}
use Rattle.usuba_model.specs.Indexes.{counter_value}
use Rattle.usuba_cells.specs.Counters.{around}
use Rattle.usuba_cells.proofs.computing.counter_value.Given as goal

abbrev pub invariant-loop-counter : goal.invariant-loop-counter
invariant-loop-counter l = l.value ≡ counter_value (around (take l.counter-index l.counters)) l.name
