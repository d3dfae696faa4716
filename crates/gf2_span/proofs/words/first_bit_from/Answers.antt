use Rattle.std.proofs.Common.{◌/◌, ◌%◌, ◌^◌, ◌<◌, ◌≡◌, get_or, arith}
use Rattle.gf2_span.proofs.Kernels.{first_of_part, first_narrower}
use Rattle.gf2_span.proofs.words.first_bit_from.Goals as goal

pub returns-then-at-end : goal.returns-then-at-end
returns-then-at-end c = λ d h. c.requires.clear d (omega arith)

pub returns-then-word-ne0 : goal.returns-then-word-ne0
returns-then-word-ne0 c =
    let some : 0 < get_or c.args.words.now (c.args.start / 64) 0 / 2 ^ (c.args.start % 64) = omega arith in
    let fits : get_or c.args.words.now (c.args.start / 64) 0 < 2 ^ 64 = (c.type_inv.words (c.args.start / 64)).fits in
    first_of_part c.args.words.now c.args.start some fits

pub returns : goal.returns
returns c =
    let zero : get_or c.args.words.now (c.args.start / 64) 0 / 2 ^ (c.args.start % 64) ≡ 0 = omega arith in
    first_narrower c.args.words.now c.args.start c.first_in_words.result zero c.first_in_words.ensures
