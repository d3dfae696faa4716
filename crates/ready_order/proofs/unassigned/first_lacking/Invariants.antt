use Rattle.std.proofs.Common.{◌≡◌, ◌+◌, drop}
use Rattle.usuba_model.specs.Shapes.{all_elements}
use Rattle.ready_order.specs.State.Lacking.{lacking, place_lacking}
use Rattle.ready_order.proofs.unassigned.first_lacking.Given as goal

abbrev pub invariant-loop-k : goal.invariant-loop-k
invariant-loop-k l = record {
  sum : l.from + all_elements (drop l.k l.declared) ≡ l.first + all_elements l.declared;
  left : place_lacking (lacking l.uses l.is_local) l.from (drop l.k l.declared)
      ≡ place_lacking (lacking l.uses l.is_local) l.first l.declared;
}
