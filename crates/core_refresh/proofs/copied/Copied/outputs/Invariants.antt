use Rattle.std.proofs.Common.{◌≡◌, map, take}
use Rattle.core_refresh.specs.State.Copying.{number_in}
use Rattle.core_refresh.proofs.copied.Copied.outputs.Given as goal

abbrev pub invariant-loop-r : goal.invariant-loop-r
invariant-loop-r l = l.outputs.items ≡ map (number_in l.self.numbers) (take l.r-index l.registers)
