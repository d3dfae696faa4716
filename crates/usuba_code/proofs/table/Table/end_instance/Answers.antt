use Rattle.std.proofs.Common.{◌≡◌, length, arith}
use Rattle.usuba_code.proofs.Cutting.{instance_pushed, flat_instance}
use Rattle.usuba_code.proofs.table.Table.end_instance.Goals as goal

pub invariant_of-self-2 : goal.invariant_of-self-2
invariant_of-self-2 c =
    let lefts : c.len-lefts.result ≡ length c.self.inside.lefts.items = omega (arith, c.len-lefts.ensures, c.self.inside.lefts.ok) in
    let code : c.len-code.result ≡ length c.self.inside.code.items = omega (arith, c.len-code.ensures, c.self.inside.code.ok) in
    rw (c.in_ok-push.ensures.items, lefts, code) (flat_instance _ _ _ _ c.self.invariant)

pub returns : goal.returns
returns c =
    let lefts : c.len-lefts.result ≡ length c.self.inside.lefts.items = omega (arith, c.len-lefts.ensures, c.self.inside.lefts.ok) in
    let code : c.len-code.result ≡ length c.self.inside.code.items = omega (arith, c.len-code.ensures, c.self.inside.code.ok) in
    rw (c.in_ok-push.ensures.items, lefts, code, ← c.self.view_is) (instance_pushed _ _ _ _ c.self.invariant)
