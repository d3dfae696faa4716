use Rattle.std.proofs.Common.{◌≡◌, drop}
use Rattle.std.specs.Option.{option_or}
use Rattle.usuba_phases.proofs.FirstSome.{first_some}
use Rattle.usuba_phases.proofs.Entering.{mixed_fault}
use Rattle.usuba_phases.proofs.widths.check_declarations.Given as goal

abbrev pub invariant-loop-declaration : goal.invariant-loop-declaration
invariant-loop-declaration l =
    option_or l.fault (first_some (mixed_fault l.width) (drop l.declaration-index l.declarations))
    ≡ option_or l.initial.fault (first_some (mixed_fault l.width) l.declarations)
