use Rattle.std.proofs.Common.{◌≡◌, drop}
use Rattle.std.specs.Option.{option_or}
use Rattle.usuba_phases.proofs.FirstSome.{first_some}
use Rattle.usuba_phases.proofs.Entering.{mixed_declared}
use Rattle.usuba_phases.proofs.widths.mixed_width.Given as goal

abbrev pub invariant-loop-definition : goal.invariant-loop-definition
invariant-loop-definition l =
    option_or l.fault (first_some (mixed_declared l.width) (drop l.definition-index l.definition-items))
    ≡ option_or l.initial.fault (first_some (mixed_declared l.width) l.definition-items)
