use Rattle.std.proofs.Common.{◌≡◌, ◌<◌, ◌≤◌, ◌+◌, ◌*◌, ℕ, [], length}
use Rattle.span_model.specs.Span.{SameSpan}
use Rattle.span_model.specs.Attack.{product_at}
use Rattle.linear_view.specs.View.{products_of}
use Rattle.tightprove.specs.Classes.{class_rows, AreClasses, AreByLead}
use Rattle.tightprove.specs.Private.Gathered.{place_at, IsPlaceOf}
use Rattle.tightprove.proofs.gathered.Gathered.of.Given as goal

abbrev pub invariant-loop-k : goal.invariant-loop-k
invariant-loop-k l =
    record {
      few : length l.list.items ≤ 1 + 2 * l.k;
      classes : AreClasses l.columns l.list.items;
      by_lead : AreByLead l.list.items l.by_lead.items;
      width : length l.by_lead.items ≡ l.columns;
      bare : l.bare < length l.list.items;
      bare_rows : SameSpan (class_rows l.list.items l.bare) [];
      count : length l.places.items ≡ l.k;
      placed : (p : ℕ) → p < l.k → IsPlaceOf l.list.items (place_at l.places.items p) (product_at (products_of l.view) p);
    }
