use Rattle.std.proofs.Common.{◌≡◌, length}
use Rattle.c_names.specs.Names.{take_all}
use Rattle.c_names.proofs.gadget.take_all.Given as goal

abbrev pub invariant-loop-parameter : goal.invariant-loop-parameter
invariant-loop-parameter l = take_all l.parameters l.arguments ≡ take_all l.fn.parameters l.fn.arguments

abbrev pub decreases-loop-parameter : goal.decreases-loop-parameter
decreases-loop-parameter l = length l.parameters
