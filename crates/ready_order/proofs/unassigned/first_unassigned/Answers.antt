use Rattle.std.proofs.Common.{ap, ◌∙◌}
use Rattle.ready_order.proofs.LackingLemmas.{unassigned_at, unassigned_found}
use Rattle.ready_order.proofs.unassigned.first_unassigned.Goals as goal

pub returns-in-Some : goal.returns-in-Some
returns-in-Some c =
    ap unassigned_at c.in-Some.ensures ∙ unassigned_found c.args.node.now c.args.table.now.done c.in_ok-uses.uses c.in_ok-uses.ensures

pub returns : goal.returns
returns c =
    ap unassigned_at c.in-None.ensures ∙ unassigned_found c.args.node.now c.args.table.now.done c.in_ok-uses.uses c.in_ok-uses.ensures
