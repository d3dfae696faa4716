use Rattle.std.proofs.Common.{arith}
use Rattle.usuba_code.proofs.Cutting.{length_done}
use Rattle.usuba_code.proofs.table.Table.len.Goals as goal

pub returns : goal.returns
returns c =
    let count = length_done _ _ _ _ c.self.invariant in
    rw (← c.self.view_is) (omega (arith, c.len.ensures, c.self.inside.instances.ok, count))
