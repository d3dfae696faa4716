use Rattle.std.proofs.Common.{◌≡◌, map, take}
use Rattle.usuba0.specs.PlainRun.{word_at}
use Rattle.usuba0.proofs.run.run_plain.Given as goal

abbrev pub invariant-loop-output : goal.invariant-loop-output
invariant-loop-output l = l.outputs ≡ map (word_at l.words.items) (take l.output-index l.registers)
