use Rattle.std.proofs.Common.{◌+◌, ◌*◌}
use Rattle.usuba_plan.proofs.NodeRuns.{Taking}
use Rattle.usuba_plan.proofs.Runs.{Running}
use Rattle.usuba_plan.proofs.running.+running.Given as goal

abbrev pub decreases-call : goal.decreases-call
decreases-call g l = 5 * l.callee + 4

abbrev pub decreases-run : goal.decreases-run
decreases-run g l = 5 * l.number + 3

abbrev pub decreases-run_code : goal.decreases-run_code
decreases-run_code g l = 5 * l.number + 1

abbrev pub decreases-run_node : goal.decreases-run_node
decreases-run_node g l = 5 * l.number + 2

abbrev pub decreases-run_operation : goal.decreases-run_operation
decreases-run_operation g l = 5 * l.number

abbrev pub invariant-run_code-loop-operation : goal.invariant-run_code-loop-operation
invariant-run_code-loop-operation g l =
    Running l.defs l.plans l.number (g.E.Elements.store l.fn.elements) (g.E.Elements.store l.elements) l.code l.cells l.fn.stack.items l.stack.items
    l.operation-index

abbrev pub invariant-run_node-loop-i : goal.invariant-run_node-loop-i
invariant-run_node-loop-i g l =
    Taking l.defs l.plans l.number (g.E.Elements.store l.fn.elements) (g.E.Elements.store l.elements) l.node l.inputs l.environment.items l.i
