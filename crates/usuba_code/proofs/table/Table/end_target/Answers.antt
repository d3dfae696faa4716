use Rattle.std.proofs.Common.{◌≡◌, length, arith}
use Rattle.usuba_code.proofs.Cutting.{left_pushed, flat_left}
use Rattle.usuba_code.proofs.table.Table.end_target.Goals as goal

pub invariant_of-self-2 : goal.invariant_of-self-2
invariant_of-self-2 c =
    let end : c.len-end.result ≡ length c.self.inside.cells.items = omega (arith, c.len-end.ensures, c.self.inside.cells.ok) in
    rw (c.in_ok-push.ensures.items, end) (flat_left _ _ _ _ c.self.invariant c.args.place)

pub returns : goal.returns
returns c =
    let end : c.len-end.result ≡ length c.self.inside.cells.items = omega (arith, c.len-end.ensures, c.self.inside.cells.ok) in
    rw (c.in_ok-push.ensures.items, end, ← c.self.view_is) (left_pushed _ _ _ _ c.self.invariant c.args.place)
