use Rattle.std.proofs.Common.{◌<◌, ℕ, List, length, subst, arith}
use Rattle.std.specs.List.{Contains}
use Rattle.tightprove.proofs.Clearing.{mapped_none}
use Rattle.tightprove.proofs.Taking.{partners_at}
use Rattle.tightprove.proofs.affine.take_class.Goals as goal

pub returns-then-rests-k-clause-mapped : goal.returns-then-rests-k-clause-mapped
returns-then-rests-k-clause-mapped c = mapped_none c.args.rests.now

pub take_partners-requires : goal.take_partners-requires
take_partners-requires c = λ j there.
    let is = partners_at c.args.classes.now.list.items c.args.k c.index.result.now c.as_slice.result.now c.requires.k c.index.ensures c.as_slice.ensures in
    let within : j < length c.args.classes.now.list.items =
    c.requires.classes.classes.partners c.args.k j (subst (λ (xs : List ℕ). Contains xs j) is there) in
    omega (arith, c.requires.count)

pub returns-clause-steps : goal.returns-clause-steps
returns-clause-steps c =
    c.in_ok-take_partners.ensures.steps c.args.classes.now.list.items
    (λ j there. subst (λ (xs : List ℕ). Contains xs j)
    (partners_at c.args.classes.now.list.items c.args.k c.index.result.now c.as_slice.result.now c.requires.k c.index.ensures c.as_slice.ensures) there)
    c.requires.steps
