use Rattle.std.proofs.Common.{◌<◌, ℕ, List, length, sym, subst, arith}
use Rattle.std.specs.List.{Contains}
use Rattle.tightprove.proofs.Calls.{on_true, of_true}
use Rattle.tightprove.proofs.Taking.{partners_at}
use Rattle.tightprove.proofs.affine.has_ended.Goals as goal

pub are_zero-requires : goal.are_zero-requires
are_zero-requires c = λ j there.
    let is = partners_at c.args.classes.now.list.items c.args.k c.index.result.now c.as_slice.result.now c.requires.k c.index.ensures c.as_slice.ensures in
    let within : j < length c.args.classes.now.list.items =
    c.requires.classes.classes.partners c.args.k j (subst (λ (xs : List ℕ). Contains xs j) is there) in
    omega (arith, c.requires.count)

pub returns : goal.returns
returns c =
    let is = partners_at c.args.classes.now.list.items c.args.k c.index.result.now c.as_slice.result.now c.requires.k c.index.ensures c.as_slice.ensures in
    on_true c.are_zero.result _ (λ yes same j partner.
    of_true c.are_zero.result _ yes c.are_zero.ensures j (subst (λ (xs : List ℕ). Contains xs j) (sym is) partner))
