use Rattle.std.proofs.Common.{◌<◌, ◌+◌, ◌*◌, ◌++◌, ℕ, List, length, sym, subst, arith}
use Rattle.usuba_model.specs.Rounds.{element_by_element}
use Rattle.usuba_model.specs.Walk.{weight}
use Rattle.usuba_plan.specs.Store.{meanings}
use Rattle.usuba_plan.proofs.Stacking.{Pushing, pairs_rest, pairs_step, next_product}
use Rattle.usuba_plan.proofs.stack.push_pairs.Goals as goal

pub loop-i-preserved : goal.loop-i-preserved
loop-i-preserved g c =
    let old = g.E.Elements.store c.args.elements.now in
    let next = g.E.Elements.store c.combine.new.self in
    let i = c.loop-i.i in
    let op = c.args.op in
    let left = c.args.left.now in
    let right = c.args.right.now in
    let test = c.loop-i-test.true in
    let pairs = c.requires.pairs in
    let less : i < length right = omega (arith, test, pairs) in
    let whole = meanings old c.args.stack.now.items ++ element_by_element (old.operators.operation_of op) (meanings old left) (meanings old right) in
    subst (λ (m : ℕ). Pushing m old next c.push.new.self.items (pairs_rest old op left right (i + 1)) whole) (next_product (weight op) i)
    (subst (λ (stack : List g.row.E-Handle.Denot). Pushing (weight op * i + weight op) old next stack (pairs_rest old op left right (i + 1)) whole)
    (sym c.in_ok-push.ensures.items)
    (pairs_step i old (g.E.Elements.store c.loop-i.elements) next op left right c.loop-i.stack.items c.index-left-i.result c.index-right-i.result c.in_ok-made.made whole
    test less c.index-left-i.is c.index-right-i.is c.requires.left c.requires.right c.loop-i.invariant c.in_ok-made.ensures.made c.in_ok-made.ensures.keeps))
