use Rattle.std.proofs.Common.{◌-◌, ◌*◌, ◌^◌, ◌<◌, bit_and, sym, ap, ◌∙◌, arith}
use Rattle.std.proofs.lemmas.Nat.{and_mask, pow_below}
use Rattle.std.proofs.Math.Nat.{mod-eq_of_lt, pow-le-pow_right, lt_of_lt_of_le}
use Rattle.c_machine.proofs.statement.cut.Goals as goal

pub returns-then-bits-lt64 : goal.returns-then-bits-lt64
returns-then-bits-lt64 c =
    let below : 1 * 2 ^ c.args.bits < 2 ^ 64 = omega (arith, pow_below c.args.bits 64 (omega arith)) in
    ap (λ m. bit_and c.args.word (m - 1)) (mod-eq_of_lt below ∙ omega arith) ∙ and_mask c.args.word c.args.bits

pub returns-else-bits-lt64 : goal.returns-else-bits-lt64
returns-else-bits-lt64 c = sym (mod-eq_of_lt (lt_of_lt_of_le {m = 2 ^ 64} (omega arith) (pow-le-pow_right {n = 2} (omega arith) {i = 64} {j = c.args.bits} (omega arith))))
