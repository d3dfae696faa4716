use Rattle.std.proofs.Common.{◌≡◌, [], map, take, get_or}
use Rattle.usuba0.specs.Term.{Input}
use Rattle.usuba0.specs.CoreOfTerms.{first_places, walk}
use Rattle.usuba0.specs.State.Walk.{all_terms, terms_in, IsWalk}
use Rattle.usuba0.proofs.finish.Walk.of.Given as goal

abbrev pub invariant-loop-output : goal.invariant-loop-output
invariant-loop-output l =
    record {
      stands : IsWalk l.width l.inputs l.heads l.walk.places.items l.walk.order.items;
      same : terms_in (all_terms l.inputs l.heads) l.walk.order.items
          ≡ first_places [] (walk (map (λ r. get_or (all_terms l.inputs l.heads) r.0 (Input 0)) (take l.output-index l.outputs)));
    }
