use Rattle.std.proofs.Common.{◌+◌, ◌++◌, List, map, sym, subst}
use Rattle.usuba_plan.specs.State.Handles.{unary_of}
use Rattle.usuba_plan.specs.Store.{meanings}
use Rattle.usuba_plan.proofs.Stacking.{Pushing, each_rest, each_step}
use Rattle.usuba_plan.proofs.stack.push_each.Goals as goal

pub loop-operand-preserved : goal.loop-operand-preserved
loop-operand-preserved g c =
    let old = g.E.Elements.store c.args.elements.now in
    let next = g.E.Elements.store c.apply.new.elements in
    let i = c.loop-operand.operand-index in
    let operands = c.args.operands.now in
    let whole = meanings old c.args.stack.now.items ++ map (unary_of old.operators c.args.unary) (meanings old operands) in
    subst (λ (stack : List g.row.E-Handle.Denot). Pushing (i + 1) old next stack (each_rest old c.args.unary operands (i + 1)) whole)
    (sym c.in_ok-push.ensures.items)
    (each_step i old (g.E.Elements.store c.loop-operand.elements) next c.args.unary operands c.loop-operand.stack.items c.operand-item.result c.in_ok-made.made whole
    c.loop-operand-test.true c.operand-item.is c.requires.held c.loop-operand.invariant c.in_ok-made.ensures.made c.in_ok-made.ensures.keeps)
