use Rattle.std.proofs.Common.{◌≤◌, ◌∙◌, length, map, arith}
use Rattle.std.proofs.lemmas.Result.{on_ok_weaker}
use Rattle.usuba_plan.specs.State.Handles.{unary_of}
use Rattle.usuba_plan.proofs.Splitting.{applied}
use Rattle.usuba_plan.proofs.stack.apply_last.Goals as goal

pub returns-clause-made : goal.returns-clause-made
returns-clause-made g c =
    let old = g.E.Elements.store c.args.elements.now in
    let stack = c.args.stack.now.items in
    let few = c.requires.count in
    let ok = c.args.stack.now.ok.0 in
    let enough : c.args.count ≤ length stack = omega (arith, few, ok) in
    on_ok_weaker c.push_each.result
    (applied old (g.E.Elements.store c.push_each.new.elements) c.args.count (map (unary_of old.operators c.args.unary)) stack
    c.take_last.new.stack.items c.as_slice.result.now c.push_each.new.stack.items enough c.in_ok-operands.ensures.below
    (c.as_slice.ensures.value ∙ c.in_ok-operands.ensures.taken))
    c.push_each.ensures.made
