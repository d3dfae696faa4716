use Rattle.std.proofs.Common.{◌≡◌, ◌<◌, suc, length, sym, arith}
use Rattle.usuba_code.proofs.Cutting.{last_cell_at}
use Rattle.usuba_code.proofs.table.cells_before.Goals as goal

pub returns-in-Some : goal.returns-in-Some
returns-in-Some c =
    let count : c.args.count ≡ suc c.in-Some.last = omega (arith, c.in-Some.ensures) in
    let within : c.in-Some.last < length c.args.lefts.now = omega (arith, count, c.requires) in
    rw count (sym (last_cell_at 0 c.args.lefts.now c.in-Some.last _ within))
