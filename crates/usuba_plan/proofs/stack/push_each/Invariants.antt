use Rattle.std.proofs.Common.{◌++◌, map}
use Rattle.usuba_plan.specs.State.Handles.{unary_of}
use Rattle.usuba_plan.specs.Store.{meanings}
use Rattle.usuba_plan.proofs.Stacking.{Pushing, each_rest}
use Rattle.usuba_plan.proofs.stack.push_each.Given as goal

abbrev pub invariant-loop-operand : goal.invariant-loop-operand
invariant-loop-operand g l =
    let old = g.E.Elements.store l.fn.elements in
    Pushing l.operand-index old (g.E.Elements.store l.elements) l.stack.items (each_rest old l.unary l.operands l.operand-index)
    (meanings old l.fn.stack.items ++ map (unary_of old.operators l.unary) (meanings old l.operands))
