use Rattle.usuba_code.proofs.Cutting.{operation_pushed, flat_operation}
use Rattle.usuba_code.proofs.table.Table.push_operation.Goals as goal

pub invariant_of-self-2 : goal.invariant_of-self-2
invariant_of-self-2 c = rw c.in_ok-push.ensures.items (flat_operation _ _ _ _ c.self.invariant c.args.operation)

pub returns : goal.returns
returns c = rw (c.in_ok-push.ensures.items, ← c.self.view_is) (operation_pushed _ _ _ _ c.self.invariant c.args.operation)
