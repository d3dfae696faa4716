use Rattle.std.proofs.Common.{◌≤◌, ◌<◌, ◌+◌, ◌≡◌, ℕ, slice_index, nat_eq, bit_or}
use Rattle.std.specs.Simd.Lanes.{fold_l, chunk}
use Rattle.std.proofs.lemmas.Bool.{OnTrue_from, eqb-true}
use Rattle.gf2_span.proofs.Kernels.{block_zero}
use Rattle.gf2_span.proofs.words.lanes_are_zero.Goals as goal

pub returns : goal.returns
returns c =
    OnTrue_from (nat_eq (fold_l bit_or 0 (chunk c.args.at 8 c.args.words.now)) 0) ((k : ℕ) → c.args.at ≤ k → k < c.args.at + 8 → slice_index c.args.words.now k ≡ 0)
    (λ e k low high. block_zero c.args.words.now c.args.at k (eqb-true (fold_l bit_or 0 (chunk c.args.at 8 c.args.words.now)) 0 e) low high)
