use Rattle.std.proofs.Common.{◌^◌, ◌<◌, ◌≤◌, sym, ◌∙◌, arith}
use Rattle.std.proofs.Math.Pow.{pow_mono}
use Rattle.std.proofs.lemmas.Bool.{le-ltb, lt-leb}
use Rattle.usuba_walk.proofs.faults.is_too_big.Goals as goal

pub returns-else-width-lt64 : goal.returns-else-width-lt64
returns-else-width-lt64 c =
    let wide : 64 ≤ c.args.width = c.if-width-lt64.false in
    let least : 2 ^ 64 ≤ 2 ^ c.args.width = pow_mono wide in
    let small : c.args.value < 2 ^ c.args.width = omega (arith, least, c.ranges.value.fits) in
    le-ltb c.args.width 64 wide ∙ sym (lt-leb (2 ^ c.args.width) c.args.value small)
