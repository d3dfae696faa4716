-- Loop counters and computed indexes as the model of sources sees them.
use Rattle.std.specs.Prelude.{List, map, reverse}
use Rattle.usuba_cells.specs.declared.computing.Counter.{Counter}
use Rattle.usuba_cells.specs.declared.computing.Computed.{Computed}
use Rattle.usuba_model.specs.Indexes as model

-- a counter, by its name and value
abbrev pub counter_of : Counter → model.Counter
counter_of counter = record { name = counter.name.now; value = counter.value }

-- the counters of the loops around a place, where the innermost loop is listed last: the innermost first
abbrev pub around : List Counter → List model.Counter
around counters = reverse (map counter_of counters)

-- what computing an index came to
abbrev pub computed_of : Computed → model.Computed
computed_of computed = record { value = computed.value; divided_by_zero = computed.divided_by_zero; too_big = computed.too_big }
