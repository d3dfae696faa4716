use Rattle.std.proofs.Common.{◌++◌, ◌*◌}
use Rattle.usuba_model.specs.Rounds.{element_by_element}
use Rattle.usuba_model.specs.Walk.{weight}
use Rattle.usuba_plan.specs.Store.{meanings}
use Rattle.usuba_plan.proofs.Stacking.{Pushing, pairs_rest}
use Rattle.usuba_plan.proofs.stack.push_pairs.Given as goal

abbrev pub invariant-loop-i : goal.invariant-loop-i
invariant-loop-i g l =
    let old = g.E.Elements.store l.fn.elements in
    Pushing (weight l.op * l.i) old (g.E.Elements.store l.elements) l.stack.items (pairs_rest old l.op l.left l.right l.i)
    (meanings old l.fn.stack.items
    ++ element_by_element (old.operators.operation_of l.op) (meanings old l.left) (meanings old l.right))
