use Rattle.std.proofs.Common.{◌-◌}
use Rattle.usuba_model.specs.Rounds.{element_at}
use Rattle.usuba_plan.proofs.Picking.{Picking}
use Rattle.usuba_plan.proofs.cells.permute.Given as goal

abbrev pub invariant-loop-entry : goal.invariant-loop-entry
invariant-loop-entry g l = Picking (λ entry. element_at l.handles (entry - 1)) l.entries l.found.items l.entry-index
