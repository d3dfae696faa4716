use Rattle.std.proofs.Common.{ap, arith}
use Rattle.usuba_model.specs.Shapes.{all_elements}
use Rattle.ready_order.proofs.LackingLemmas.{node_elements}
use Rattle.ready_order.proofs.unassigned.place_of.Goals as goal

pub count_of-outputs-requires : goal.count_of-outputs-requires
count_of-outputs-requires c = omega (arith, c.requires, node_elements c.args.node.now, ap all_elements c.as_slice.ensures)

pub first_lacking-requires-clause-few : goal.first_lacking-requires-clause-few
first_lacking-requires-clause-few c = omega (arith, c.requires, node_elements c.args.node.now, ap all_elements c.as_slice-2.ensures)

pub first_lacking-requires-clause-room : goal.first_lacking-requires-clause-room
first_lacking-requires-clause-room c =
    omega (
      arith,
      c.requires,
      node_elements c.args.node.now,
      ap all_elements c.as_slice.ensures,
      ap all_elements c.as_slice-2.ensures,
      c.count_of-outputs.ensures,
    )

pub count_of-requires : goal.count_of-requires
count_of-requires c = omega (arith, c.requires, node_elements c.args.node.now, ap all_elements c.as_slice-in-None.ensures)

pub overflow_add-locals : goal.overflow_add-locals
overflow_add-locals c =
    omega (
      arith,
      c.requires,
      node_elements c.args.node.now,
      ap all_elements c.as_slice.ensures,
      ap all_elements c.as_slice-in-None.ensures,
      c.count_of-outputs.ensures,
      c.count_of.ensures,
    )

pub first_lacking-requires-in-None-clause-few : goal.first_lacking-requires-in-None-clause-few
first_lacking-requires-in-None-clause-few c =
    omega (arith, c.requires, node_elements c.args.node.now, ap all_elements c.as_slice-in-None-2.ensures)

pub first_lacking-requires-in-None-clause-room : goal.first_lacking-requires-in-None-clause-room
first_lacking-requires-in-None-clause-room c =
    omega (
      arith,
      c.requires,
      node_elements c.args.node.now,
      ap all_elements c.as_slice.ensures,
      ap all_elements c.as_slice-in-None.ensures,
      ap all_elements c.as_slice-in-None-2.ensures,
      c.count_of-outputs.ensures,
      c.count_of.ensures,
    )
