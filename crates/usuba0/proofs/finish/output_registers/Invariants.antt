use Rattle.std.proofs.Common.{◌≡◌, map, take}
use Rattle.usuba0.specs.State.Walk.{place_in}
use Rattle.usuba0.proofs.finish.output_registers.Given as goal

abbrev pub invariant-loop-output : goal.invariant-loop-output
invariant-loop-output l = l.registers.items ≡ map (place_in l.walk.places.items) (take l.output-index l.outputs)
