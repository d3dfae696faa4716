use Rattle.std.proofs.Common.{◌≡◌, get_or}
use Rattle.usuba0.specs.Term.{Input}
use Rattle.usuba0.specs.CoreOfTerms.{first_places, postorder}
use Rattle.usuba0.specs.State.Walk.{all_terms, terms_in, IsUnderWay, order_at_end, work}
use Rattle.usuba0.proofs.finish.Walk.visit.Given as goal

abbrev pub invariant-loop-self : goal.invariant-loop-self
invariant-loop-self l =
    record {
      under : IsUnderWay l.width l.inputs l.heads l.self.places.items l.self.order.items l.pending.items;
      same : order_at_end l.inputs l.heads l.self.order.items l.pending.items
          ≡ first_places (terms_in (all_terms l.inputs l.heads) l.initial.self.order.items) (postorder (get_or (all_terms l.inputs l.heads) l.term (Input 0)));
    }

abbrev pub decreases-loop-self : goal.decreases-loop-self
decreases-loop-self l = work l.self.places.items l.pending.items
