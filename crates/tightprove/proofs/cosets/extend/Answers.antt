use Rattle.std.proofs.Common.{ℕ, List, bit_xor, subst, sym}
use Rattle.std.specs.List.{Contains}
use Rattle.tightprove.specs.Private.Images.{IsKeptBy, Extends}
use Rattle.tightprove.proofs.Reaching.{test_holds, kept_inside, kept_new, extends_doubled}
use Rattle.tightprove.proofs.cosets.extend.Goals as goal

pub returns-then-contains-clause-kept : goal.returns-then-contains-clause-kept
returns-then-contains-clause-kept c =
    let members : List ℕ = c.args.members.now.items in
    let first : ℕ = c.index.result.now in
    let moved : Contains c.args.members.now.items (bit_xor c.index.result.now c.args.image) =
    subst (λ (xs : List ℕ). Contains xs (bit_xor c.index.result.now c.args.image)) c.deref.ensures.value
    (test_holds c.deref.result.now (bit_xor c.index.result.now c.args.image) c.contains.result c.contains.ensures.cases c.if-contains.true) in
    kept_inside members first c.args.image c.requires.coset (0, c.requires.some, sym c.index.ensures) moved

pub returns-clause-extends : goal.returns-clause-extends
returns-clause-extends c =
    subst (λ (xs : List ℕ). Extends c.args.members.now.items xs) (sym c.in_ok-add_moved.ensures) (extends_doubled c.args.members.now.items c.args.image c.requires.coset)

pub returns-clause-kept : goal.returns-clause-kept
returns-clause-kept c =
    subst (λ (xs : List ℕ). IsKeptBy c.args.image xs) (sym c.in_ok-add_moved.ensures) (kept_new c.args.members.now.items c.args.image)
