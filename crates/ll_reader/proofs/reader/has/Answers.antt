use Rattle.std.proofs.Common.{◌≡◌, ◌<◌, ◌≤◌, ◌^◌, ℕ, arith}
use Rattle.std.specs.Int.{bit_at}
use Rattle.std.proofs.lemmas.Bool.{ltb-true}
use Rattle.std.proofs.lemmas.Nat.Bits.{bit_at_above}
use Rattle.ll_reader.proofs.reader.has.Goals as goal

zero_not_one : (n : ℕ) → n ≡ 0 → n ≡ 1 → ⊥
zero_not_one n none one = absurd (omega arith)

not_below : (a b : ℕ) → a < b → b ≤ a → ⊥
not_below a b less more = absurd (omega arith)

-- a number of 64 bits has no bit from 64 on
pub returns-else-class-lt64 : goal.returns-else-class-lt64
returns-else-class-lt64 c =
    let narrow : c.args.set < 2 ^ 64 = omega (arith, c.ranges.set.fits) in
    ((λ below. absurd (not_below c.args.class 64 (ltb-true c.args.class 64 below) c.if-class-lt64.false)), (λ one. absurd (zero_not_one (bit_at c.args.set c.args.class) (bit_at_above c.args.set 64 c.args.class narrow c.if-class-lt64.false) one)))
