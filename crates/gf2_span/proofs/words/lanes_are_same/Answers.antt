use Rattle.std.proofs.Common.{◌≤◌, ◌<◌, ◌+◌, ◌≡◌, ℕ, slice_index, nat_eq, bit_or, bit_xor}
use Rattle.std.specs.Simd.Lanes.{fold_l, chunk, zip2}
use Rattle.std.proofs.lemmas.Bool.{OnTrue_from, eqb-true}
use Rattle.gf2_span.proofs.Kernels.{block_same}
use Rattle.gf2_span.proofs.words.lanes_are_same.Goals as goal

pub returns : goal.returns
returns c =
    let sum = fold_l bit_or 0 (zip2 bit_xor (chunk c.args.at 8 c.args.words.now) (chunk c.args.at 8 c.args.other.now)) in
    OnTrue_from (nat_eq sum 0)
    ((k : ℕ) → c.args.at ≤ k → k < c.args.at + 8 → slice_index c.args.words.now k ≡ slice_index c.args.other.now k)
    (λ e k low high. block_same c.args.words.now c.args.other.now c.args.at k c.requires.same c.requires.room (eqb-true sum 0 e) low high)
