use Rattle.std.proofs.Common.{ap}
use Rattle.linear_view.specs.View.{LinearView}
use Rattle.linear_view.proofs.AlikeLemmas.{alike_found, alike_sets}
use Rattle.linear_view.proofs.view.View.alike.Goals as goal

pub returns-in-Some : goal.returns-in-Some
returns-in-Some c =
    let is = alike_found c.args.self.now c.self.inside.products.items c.self.inside.alike.items c.deref.result.now c.args.operand c.in-Some.other.now c.place.result
    (ap (λ (v : LinearView). v.products) c.self.view_is) c.deref.ensures.value c.place.ensures c.in-Some.ensures.lookup.3.0
    (c.in-Some.ensures.lookup.3.1 c.in-Some.other.now) c.self.invariant.1 in
    record {
      product = is.product;
      rows = is.rows;
      sets = alike_sets c.args.self.now.products c.args.operand c.in-Some.other.now c.requires is;
    }
