use Rattle.std.proofs.Common.{◌≡◌, ◌<◌, suc, length, sym, arith}
use Rattle.usuba_code.specs.State.Flat.{no_ends}
use Rattle.usuba_code.proofs.Cutting.{last_ends_at}
use Rattle.usuba_code.proofs.table.ends_before.Goals as goal

pub returns-in-Some : goal.returns-in-Some
returns-in-Some c =
    let count : c.args.count ≡ suc c.in-Some.last = omega (arith, c.in-Some.ensures) in
    let within : c.in-Some.last < length c.args.instances.now = omega (arith, count, c.requires) in
    rw count (sym (last_ends_at no_ends c.args.instances.now c.in-Some.last _ within))
