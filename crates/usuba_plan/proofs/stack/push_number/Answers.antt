use Rattle.std.proofs.Common.{◌++◌, ◌∷◌, [], List, Some, sym, subst}
use Rattle.usuba_plan.specs.Store.{Gives, meanings}
use Rattle.usuba_plan.proofs.Stacking.{one_pushed}
use Rattle.usuba_plan.proofs.stack.push_number.Goals as goal

pub returns-clause-made : goal.returns-clause-made
returns-clause-made g c =
    let old = g.E.Elements.store c.args.elements.now in
    let new = g.E.Elements.store c.number.new.self in
    let v = old.operators.number_of c.args.value in
    subst (λ (stack : List g.row.E-Handle.Denot). Gives new stack (Some (meanings old c.args.stack.now.items ++ v ∷ []))) (sym c.in_ok-push.ensures.items)
    (one_pushed old new c.args.stack.now.items c.in_ok-made.made v c.requires.stack c.in_ok-made.ensures.keeps c.in_ok-made.ensures.made)
