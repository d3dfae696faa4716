use Rattle.std.proofs.Common.{◌≡◌, ◌++◌, replicate}
use Rattle.std.specs.List.{range_with_len}
use Rattle.usuba0.specs.State.Walk.{unplaced}
use Rattle.usuba0.proofs.finish.input_places.Given as goal

abbrev pub invariant-loop-k : goal.invariant-loop-k
invariant-loop-k l = l.places.items ≡ range_with_len 0 l.k

abbrev pub invariant-loop : goal.invariant-loop
invariant-loop l = l.places.items ≡ range_with_len 0 l.inputs ++ replicate l.counter unplaced
