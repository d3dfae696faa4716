use Rattle.std.proofs.Common.{◌<◌, ◌^◌, get_or, arith}
use Rattle.gf2_span.proofs.Kernels.{none_set_from, first_found_from}
use Rattle.gf2_span.proofs.words.first_in_words.Goals as goal

pub returns-then-word-ne0 : goal.returns-then-word-ne0
returns-then-word-ne0 c =
    let some : 0 < get_or c.args.words.now c.loop-at.at 0 = omega arith in
    let fits : get_or c.args.words.now c.loop-at.at 0 < 2 ^ 64 = (c.type_inv.words c.loop-at.at).fits in
    first_found_from c.args.words.now c.args.from c.loop-at.at c.loop-at.invariant.past c.loop-at.invariant.zero some fits

pub returns : goal.returns
returns c =
    none_set_from c.args.words.now c.args.from c.loop-at.at (λ d h. c.requires.clear d (omega arith)) c.loop-at.invariant.zero
