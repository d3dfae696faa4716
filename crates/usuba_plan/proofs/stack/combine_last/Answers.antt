use Rattle.std.proofs.Common.{◌≤◌, ◌+◌, ◌∙◌, length, arith}
use Rattle.std.proofs.lemmas.Result.{on_ok_weaker}
use Rattle.usuba_model.specs.Rounds.{element_by_element}
use Rattle.usuba_plan.proofs.Splitting.{applied_two}
use Rattle.usuba_plan.proofs.stack.combine_last.Goals as goal

pub returns-clause-made : goal.returns-clause-made
returns-clause-made g c =
    let old = g.E.Elements.store c.args.elements.now in
    let stack = c.args.stack.now.items in
    let few = c.requires.count in
    let ok = c.args.stack.now.ok.0 in
    let enough : c.args.count + c.args.count ≤ length stack = omega (arith, few, ok) in
    on_ok_weaker c.push_pairs.result
    (applied_two old (g.E.Elements.store c.push_pairs.new.elements) c.args.count (element_by_element (old.operators.operation_of c.args.op)) stack
    c.take_last.new.stack.items c.as_slice-2.result.now c.take_last-2.new.stack.items c.as_slice.result.now c.push_pairs.new.stack.items enough
    c.in_ok-right.ensures.below (c.as_slice-2.ensures.value ∙ c.in_ok-right.ensures.taken)
    c.in_ok-left.ensures.below (c.as_slice.ensures.value ∙ c.in_ok-left.ensures.taken))
    c.push_pairs.ensures.made
