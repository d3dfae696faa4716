use Rattle.std.proofs.Common.{◌≡◌, drop}
use Rattle.c_machine.specs.Scope as machine
use Rattle.c_machine.specs.State.Scopes.{scope_of}
use Rattle.c_machine.proofs.scope.meant_by.Given as goal

abbrev pub invariant-loop-named : goal.invariant-loop-named
invariant-loop-named l = machine.meant_by (scope_of (drop l.named-index l.names)) l.name ≡ machine.meant_by (scope_of l.names) l.name
