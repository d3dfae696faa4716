use Rattle.std.proofs.Common.{◌≡◌, ◌+◌, None, ◌∙◌, ap, arith, rules}
use Rattle.std.specs.Option.{option_or}
use Rattle.usuba_model.specs.Shapes.{all_elements}
use Rattle.usuba_cells.specs.State.Places.{place_at, place_in}
use Rattle.usuba_cells.proofs.PlaceLemmas.{elements-of_node, places-of_node}
use Rattle.usuba_cells.proofs.variables.Variables.new.Goals as goal

pub declare-requires : goal.declare-requires
declare-requires c = omega (arith, c.requires, elements-of_node c.args.node.now, ap all_elements c.as_slice.ensures)

pub declare-requires-2 : goal.declare-requires-2
declare-requires-2 c =
    omega (arith, c.requires, elements-of_node c.args.node.now, ap all_elements c.as_slice.ensures, ap all_elements c.as_slice-2.ensures, c.in_ok-outputs.ensures.next)

pub declare-requires-3 : goal.declare-requires-3
declare-requires-3 c =
    omega (
      arith,
      c.requires,
      elements-of_node c.args.node.now,
      ap all_elements c.as_slice.ensures,
      ap all_elements c.as_slice-2.ensures,
      ap all_elements c.as_slice-3.ensures,
      c.in_ok-outputs.ensures.next,
      c.in_ok-locals.ensures.next,
    )

pub invariant_of-result : goal.invariant_of-result
invariant_of-result c = record {
  found = λ name.
      (let none : place_at c.new-places.result name ≡ None = search rules in
      places-of_node c.args.node.now name c.in_ok-outputs.outputs c.in_ok-locals.locals
      (place_at c.new-places.result name) (place_at c.declare.new.places name) (place_at c.declare-2.new.places name) (place_at c.declare-3.new.places name)
      (c.in_ok-outputs.ensures.next ∙ ap (λ l. 0 + all_elements l) c.as_slice.ensures)
      (c.in_ok-locals.ensures.next ∙ ap (λ l. c.in_ok-outputs.outputs + all_elements l) c.as_slice-2.ensures)
      none
      (c.in_ok-outputs.ensures.places name ∙ ap (λ l. option_or (place_at c.new-places.result name) (place_in 0 l name)) c.as_slice.ensures)
      (c.in_ok-locals.ensures.places name ∙ ap (λ l. option_or (place_at c.declare.new.places name) (place_in c.in_ok-outputs.outputs l name)) c.as_slice-2.ensures)
      (c.in_ok-declare.ensures.places name ∙ ap (λ l. option_or (place_at c.declare-2.new.places name) (place_in c.in_ok-locals.locals l name)) c.as_slice-3.ensures));
  few = c.requires;
}
