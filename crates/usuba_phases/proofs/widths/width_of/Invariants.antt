use Rattle.std.proofs.Common.{◌≡◌, drop}
use Rattle.std.specs.Option.{option_or}
use Rattle.usuba_phases.proofs.FirstSome.{first_some}
use Rattle.usuba_phases.proofs.Entering.{width_declared}
use Rattle.usuba_phases.proofs.widths.width_of.Given as goal

abbrev pub invariant-loop-definition : goal.invariant-loop-definition
invariant-loop-definition l =
    option_or l.width (first_some width_declared (drop l.definition-index l.definition-items))
    ≡ option_or l.initial.width (first_some width_declared l.definition-items)
