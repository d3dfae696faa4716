use Rattle.std.proofs.Common.{◌∙◌, ◌<◌, ◌+◌, ℕ, [], List, length, sym, ap, subst, arith}
use Rattle.std.proofs.lemmas.List.{length_push}
use Rattle.span_model.specs.Columns.{Columns}
use Rattle.span_model.specs.Span.{SameSpan}
use Rattle.span_model.specs.Attack.{product_at}
use Rattle.linear_view.specs.View.{products_of}
use Rattle.tightprove.specs.Classes.{AreClasses}
use Rattle.tightprove.specs.declared.gathered.Place.{Place}
use Rattle.tightprove.specs.Private.Gathered.{place_at, IsPlaceOf}
use Rattle.tightprove.proofs.Leaving.{places_more, place_kept}
use Rattle.tightprove.proofs.gathered.Gathered.of.Goals as goal

pub loop-k-preserved : goal.loop-k-preserved
loop-k-preserved c =
    let before = c.loop-k.invariant in
    let kept = c.in_ok-placed.ensures.kept in
    let list = c.placed.new.list.items in
    let products = products_of c.args.view.now in
    let k = c.loop-k.k in
    record {
      few = omega (arith, c.in_ok-placed.ensures.few, before.few);
      classes = subst (λ (n : ℕ). AreClasses n list) (sym c.columns-columns.ensures.value) c.in_ok-placed.ensures.classes;
      by_lead = c.in_ok-placed.ensures.by_lead;
      width = c.in_ok-placed.ensures.width ∙ sym c.columns-columns.ensures.value;
      bare = omega (arith, kept.count, before.bare);
      bare_rows = subst (λ (r : List (Columns ℕ)). SameSpan r []) (sym (kept.rows c.in_ok-bare.bare before.bare)) before.bare_rows;
      count = ap length c.in_ok-push.ensures.items ∙ length_push c.loop-k.places.items c.in_ok-placed.field-0 ∙ ap (λ (n : ℕ). n + 1) before.count;
      placed = subst (λ (p : List Place). (i : ℕ) → i < k + 1 → IsPlaceOf list (place_at p i) (product_at products i)) (sym c.in_ok-push.ensures.items)
          (places_more list products c.loop-k.places.items c.in_ok-placed.field-0 k before.count
          (λ p h. place_kept c.loop-k.list.items list (place_at c.loop-k.places.items p) (product_at products p) kept (before.placed p h))
          c.in_ok-placed.ensures.place);
    }
