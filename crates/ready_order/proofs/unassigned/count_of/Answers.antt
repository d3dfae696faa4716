use Rattle.usuba_model.specs.Shapes.{all_elements}
use Rattle.usuba_model.specs.Walk.{most_operations}
use Rattle.ready_order.proofs.LackingLemmas.{counted}
use Rattle.ready_order.proofs.unassigned.count_of.Goals as goal

pub unwrap-requires : goal.unwrap-requires
unwrap-requires c =
    counted c.count_elements.result (all_elements c.args.declared.now) most_operations c.count_elements.ensures c.requires
