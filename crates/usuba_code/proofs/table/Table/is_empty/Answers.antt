use Rattle.std.proofs.Common.{arith}
use Rattle.usuba_code.proofs.Cutting.{none_done}
use Rattle.usuba_code.proofs.table.Table.is_empty.Goals as goal

pub returns : goal.returns
returns c =
    rw c.is_empty.ensures
    (none_done _ _ _ _ c.self.invariant c.args.self.now c.self.view_is c.self.inside.instances.len (omega (arith, c.self.inside.instances.ok)))
