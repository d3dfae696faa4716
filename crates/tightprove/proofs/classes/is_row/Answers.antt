use Rattle.std.proofs.Common.{◌≡◌, length, arith}
use Rattle.tightprove.proofs.Alone.{single_if}
use Rattle.tightprove.proofs.classes.is_row.Goals as goal

pub returns-in-len1 : goal.returns-in-len1
returns-in-len1 c =
    let one : length c.args.rows.now ≡ 1 = omega arith in
    single_if c.args.rows.now c.only-item.result c.args.row.now c.equals.result one c.only-item.is c.equals.ensures
