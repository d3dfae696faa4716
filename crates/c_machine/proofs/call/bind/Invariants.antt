use Rattle.std.proofs.Common.{◌≡◌, drop, vec_items}
use Rattle.c_machine.specs.Run as run
use Rattle.c_machine.specs.State.Scopes.{scope_of}
use Rattle.c_machine.proofs.Bindings.{bound_before}
use Rattle.c_machine.proofs.call.bind.Given as goal

abbrev pub invariant-loop-k : goal.invariant-loop-k
invariant-loop-k l =
    bound_before (scope_of (vec_items l.names)) (run.bound l.file (drop l.k l.parameters) (drop l.k l.arguments))
    ≡ run.bound l.file l.parameters l.arguments
