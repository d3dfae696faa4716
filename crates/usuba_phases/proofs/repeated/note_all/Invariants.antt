use Rattle.std.proofs.Common.{drop}
use Rattle.usuba_phases.specs.State.Names.{names_in}
use Rattle.usuba_phases.proofs.Repeating.{Noting}
use Rattle.usuba_phases.proofs.repeated.note_all.Given as goal

abbrev pub invariant-loop-declaration : goal.invariant-loop-declaration
invariant-loop-declaration l =
    Noting (names_in l.fn.names) (names_in l.names) l.declarations (drop l.declaration-index l.declarations) l.fault
