use Rattle.std.proofs.Common.{subst, ap, ◌∙◌, rules}
use Rattle.std.proofs.lemmas.List.Elements.{same_from_all_zip}
use Rattle.linear_view.specs.View.{LinearView, IsView}
use Rattle.linear_view.proofs.WithLemmas.{with_is}
use Rattle.linear_view.proofs.view.view_with.Goals as goal

pub new-requires : goal.new-requires
new-requires c =
    with_is c.args.like.now c.in_ok-columns.columns.keys c.args.left c.args.right c.in_ok-products.products.items (subst (λ (v : LinearView). IsView v) c.like.view_is c.like.invariant.0)
    (same_from_all_zip _ _ _ c.in_ok-columns.ensures.cases (λ x y e. search rules) ∙ ap (λ (v : LinearView). v.columns) c.like.view_is)
    c.requires.few c.requires.operands c.in_ok-products.ensures
