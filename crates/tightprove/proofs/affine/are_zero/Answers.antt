use Rattle.std.proofs.Common.{◌≡◌, ◌<◌, length, get_or, subst, arith}
use Rattle.std.proofs.lemmas.List.Elements.{Contains-get_or}
use Rattle.tightprove.proofs.Reaching.{at_same}
use Rattle.tightprove.proofs.affine.are_zero.Goals as goal

pub bounds-rests-j : goal.bounds-rests-j
bounds-rests-j c =
    c.requires (get_or c.args.partners.now c.loop-j.j-index 0) (Contains-get_or c.args.partners.now c.loop-j.j-index 0 c.loop-j-test.true)

pub offset_bounds-rests-j : goal.offset_bounds-rests-j
offset_bounds-rests-j c =
    let lt : get_or c.args.partners.now c.loop-j.j-index 0 < length c.args.rests.now =
    c.requires (get_or c.args.partners.now c.loop-j.j-index 0) (Contains-get_or c.args.partners.now c.loop-j.j-index 0 c.loop-j-test.true) in
    omega (arith, lt)

pub returns : goal.returns
returns c = λ j there.
    subst (λ n. get_or c.args.rests.now n 0 ≡ 0) (at_same c.args.partners.now there.0 j there.1 there.2)
    (c.loop-j.invariant there.0 (omega (arith, there.1)))
