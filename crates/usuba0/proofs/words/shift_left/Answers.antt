use Rattle.std.proofs.Common.{◌≡◌, ℕ, ◌+◌, ◌-◌, ◌*◌, ◌%◌, ◌^◌, bit_and, ap, ◌∙◌, arith, subst}
use Rattle.std.proofs.lemmas.Nat.{and_mask}
use Rattle.std.proofs.Math.Pow.{mod-mod-pow}
use Rattle.usuba0.proofs.words.shift_left.Goals as goal

-- a shorter mask after a longer one
masked : (n bits m : ℕ) → m + bits ≡ 64 → n % 2 ^ 64 % 2 ^ bits ≡ n % 2 ^ bits
masked n bits m e = subst (λ (k : ℕ). n % 2 ^ k % 2 ^ bits ≡ n % 2 ^ bits) e (mod-mod-pow n m bits)

pub returns : goal.returns
returns c =
    ap (bit_and ((c.args.word * 2 ^ c.args.k) % 2 ^ 64)) c.all_ones.ensures
    ∙ and_mask ((c.args.word * 2 ^ c.args.k) % 2 ^ 64) c.args.bits
    ∙ masked (c.args.word * 2 ^ c.args.k) c.args.bits (64 - c.args.bits) (omega arith)
