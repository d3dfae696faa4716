use Rattle.std.proofs.Common.{◌≡◌, drop}
use Rattle.std.specs.Option.{option_or}
use Rattle.usuba_phases.proofs.FirstSome.{first_some}
use Rattle.usuba_phases.proofs.Entering.{width_in}
use Rattle.usuba_phases.proofs.widths.first_width.Given as goal

abbrev pub invariant-loop-declaration : goal.invariant-loop-declaration
invariant-loop-declaration l =
    option_or l.width (first_some width_in (drop l.declaration-index l.declarations))
    ≡ option_or l.initial.width (first_some width_in l.declarations)
