use Rattle.std.proofs.Common.{◌≡◌, length}
use Rattle.usuba_plan.proofs.Assigning.{Assigned}
use Rattle.usuba_plan.proofs.cells.assign.Given as goal

abbrev pub invariant-loop-i : goal.invariant-loop-i
invariant-loop-i g l = record {
  assigned : Assigned l.cells l.handles l.initial.environment.items l.environment.items l.i;
  as_many : length l.environment.items ≡ length l.initial.environment.items;
}
