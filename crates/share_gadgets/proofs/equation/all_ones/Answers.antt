use Rattle.std.proofs.Common.{◌≡◌, ◌-◌, ◌^◌, ap, ◌∙◌, arith}
use Rattle.std.proofs.lemmas.Nat.Bits.{ones_shr}
use Rattle.share_gadgets.proofs.equation.all_ones.Goals as goal

pub returns : goal.returns
returns c =
    let back : 64 - (64 - c.args.bits) ≡ c.args.bits = omega arith in
    ones_shr 64 (64 - c.args.bits) (omega arith) ∙ ap (λ k. 2 ^ k - 1) back
