use Rattle.std.proofs.Common.{drop}
use Rattle.c_machine.specs.State.Gadgets.{Finds}
use Rattle.c_machine.proofs.gadgets.gadgets_by_name.Given as goal

abbrev pub invariant-loop-k : goal.invariant-loop-k
invariant-loop-k l = Finds l.found (drop l.k l.gadgets)
