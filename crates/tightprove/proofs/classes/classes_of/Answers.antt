use Rattle.std.proofs.Common.{◌≡◌, sym, subst, ◌∙◌, ℕ, length, add-one, arith}
use Rattle.std.proofs.lemmas.List.{length-map}
use Rattle.tightprove.specs.Classes.{AreStepsOf, AreClasses}
use Rattle.linear_view.specs.View.{products_of, product_of}
use Rattle.tightprove.proofs.classes.classes_of.Goals as goal

pub loop-k-preserved : goal.loop-k-preserved
loop-k-preserved c =
    let P : ℕ → Type 0 = λ n. AreStepsOf n (products_of c.args.view.now) c.add_numbered.new.list.items in
    let Q : ℕ → Type 0 = λ n. AreClasses n c.add_numbered.new.list.items in
    record {
      few = omega (arith, c.in_ok-add_numbered.ensures.few, c.loop-k.invariant.few);
      classes = subst Q (sym c.columns-columns.ensures.value) c.in_ok-add_numbered.ensures.classes;
      by_lead = c.in_ok-add_numbered.ensures.by_lead;
      width = c.in_ok-add_numbered.ensures.width ∙ sym c.columns-columns.ensures.value;
      placed = c.in_ok-add_numbered.ensures.placed;
      steps = subst P (sym (add-one c.loop-k.k)) (c.in_ok-add_numbered.ensures.steps c.loop-k.invariant.steps);
    }

pub returns-clause-products : goal.returns-clause-products
returns-clause-products c =
    let P : ℕ → Type 0 = λ n. AreStepsOf n (products_of c.args.view.now) c.loop-k.list.items in
    let e : c.loop-k.k ≡ length (products_of c.args.view.now) = omega (arith, c.loop-k-test.false, c.loop-k.auto.k-end, c.products-k-end.ensures, length-map c.args.view.now.products product_of) in
    subst P e c.loop-k.invariant.steps

pub returns-clause-gathered : goal.returns-clause-gathered
returns-clause-gathered c = record {
  few = omega (arith, c.loop-k.invariant.few, c.loop-k.auto.k-end, c.products-k-end.ensures, c.columns-columns.ensures.view.products_fit);
  classes = c.loop-k.invariant.classes;
  by_lead = c.loop-k.invariant.by_lead;
}
