use Rattle.std.proofs.Common.{◌≡◌, ◌+◌, ℕ, ap, arith, subst}
use Rattle.usuba_model.specs.Shapes.{all_elements}
use Rattle.usuba_model.specs.Unrolled.{declarations}
use Rattle.ready_order.specs.Numbered.{AreBelow}
use Rattle.ready_order.proofs.LackingLemmas.{node_elements}
use Rattle.ready_order.proofs.unassigned.uses_of.Goals as goal

pub count_of-inputs-requires : goal.count_of-inputs-requires
count_of-inputs-requires c = omega (arith, c.requires.few, node_elements c.args.node.now, ap all_elements c.as_slice.ensures)

pub count_of-outputs-requires : goal.count_of-outputs-requires
count_of-outputs-requires c = omega (arith, c.requires.few, node_elements c.args.node.now, ap all_elements c.as_slice-2.ensures)

pub count_of-locals-requires : goal.count_of-locals-requires
count_of-locals-requires c = omega (arith, c.requires.few, node_elements c.args.node.now, ap all_elements c.as_slice-3.ensures)

pub overflow_add-inputs : goal.overflow_add-inputs
overflow_add-inputs c =
    omega (
      arith,
      c.requires.few,
      node_elements c.args.node.now,
      ap all_elements c.as_slice.ensures,
      ap all_elements c.as_slice-2.ensures,
      c.count_of-inputs.ensures,
      c.count_of-outputs.ensures,
    )

pub overflow_add-inputs-2 : goal.overflow_add-inputs-2
overflow_add-inputs-2 c =
    omega (
      arith,
      c.requires.few,
      node_elements c.args.node.now,
      ap all_elements c.as_slice.ensures,
      ap all_elements c.as_slice-2.ensures,
      ap all_elements c.as_slice-3.ensures,
      c.count_of-inputs.ensures,
      c.count_of-outputs.ensures,
      c.count_of-locals.ensures,
    )

pub of-requires : goal.of-requires
of-requires c =
    let sum : all_elements (declarations c.args.node.now) ≡ c.count_of-inputs.result + c.count_of-outputs.result + c.count_of-locals.result
    = omega (
      arith,
      node_elements c.args.node.now,
      ap all_elements c.as_slice.ensures,
      ap all_elements c.as_slice-2.ensures,
      ap all_elements c.as_slice-3.ensures,
      c.count_of-inputs.ensures,
      c.count_of-outputs.ensures,
      c.count_of-locals.ensures,
    ) in
    subst (λ (n : ℕ). AreBelow n c.args.table.now.done) sum c.requires.cells
