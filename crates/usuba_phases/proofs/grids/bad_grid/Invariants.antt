use Rattle.std.proofs.Common.{◌≡◌, drop}
use Rattle.std.specs.Option.{option_or}
use Rattle.usuba_phases.specs.State.Phases.{grid_fault_in}
use Rattle.usuba_phases.proofs.FirstSome.{first_some}
use Rattle.usuba_phases.proofs.grids.bad_grid.Given as goal

abbrev pub invariant-loop-definition : goal.invariant-loop-definition
invariant-loop-definition l =
    option_or l.fault (first_some grid_fault_in (drop l.definition-index l.definition-items))
    ≡ option_or l.initial.fault (first_some grid_fault_in l.definition-items)
