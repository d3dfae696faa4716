use Rattle.std.proofs.Common.{◌+◌, ◌/◌, ◌≡◌, replicate}
use Rattle.gf2_span.proofs.Bits.{row_of_zeros, bits-zeros}
use Rattle.gf2_span.proofs.row.BitRow.new.Goals as goal

pub invariant_of-result : goal.invariant_of-result
invariant_of-result c =
    let e : c.in_ok-words.words.items ≡ replicate ((c.args.columns + 63) / 64) 0 = c.in_ok-words.ensures.items_if_clones_equal (λ y h. h) in
    rw e (row_of_zeros c.args.columns c.ranges.columns.fits)

pub returns : goal.returns
returns c =
    let e : c.in_ok-words.words.items ≡ replicate ((c.args.columns + 63) / 64) 0 = c.in_ok-words.ensures.items_if_clones_equal (λ y h. h) in
    rw e (bits-zeros c.args.columns ((c.args.columns + 63) / 64))
