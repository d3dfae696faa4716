use Rattle.usuba_code.proofs.Cutting.{cell_pushed, flat_cell}
use Rattle.usuba_code.proofs.table.Table.push_cell.Goals as goal

pub invariant_of-self-2 : goal.invariant_of-self-2
invariant_of-self-2 c = rw c.in_ok-push.ensures.items (flat_cell _ _ _ _ c.self.invariant c.args.cell)

pub returns : goal.returns
returns c = rw (c.in_ok-push.ensures.items, ← c.self.view_is) (cell_pushed _ _ _ _ c.self.invariant c.args.cell)
