use Rattle.std.proofs.Common.{arith}
use Rattle.ready_order.proofs.LackingLemmas.{part_elements}
use Rattle.ready_order.proofs.unassigned.own_elements.Goals as goal

pub count_of-requires : goal.count_of-requires
count_of-requires c = omega (arith, part_elements c.args.declared.now c.args.k, c.requires.few)
