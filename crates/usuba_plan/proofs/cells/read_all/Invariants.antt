use Rattle.std.specs.List.{range_with_len}
use Rattle.usuba_plan.specs.State.Handles.{handle_at}
use Rattle.usuba_plan.proofs.Picking.{Picking}
use Rattle.usuba_plan.proofs.cells.read_all.Given as goal

abbrev pub invariant-loop-k : goal.invariant-loop-k
invariant-loop-k g l = Picking (handle_at l.environment) (range_with_len l.from l.count) l.found.items l.k
