use Rattle.std.proofs.Common.{◌≡◌, ◌<◌, inl, inr, ℕ, List, length, get_or, subst, ◌∙◌, arith}
use Rattle.std.proofs.lemmas.Bool.{cases_lt}
use Rattle.std.proofs.lemmas.List.{get_or_default}
use Rattle.std.proofs.lemmas.List.Elements.{Contains-get_or}
use Rattle.tightprove.specs.Private.Images.{image_at, IsKeptBy}
use Rattle.tightprove.proofs.Calls.{of_true}
use Rattle.tightprove.proofs.Reaching.{at_same, extends_twice}
use Rattle.tightprove.proofs.cosets.take_partners.Goals as goal

pub index-requires : goal.index-requires
index-requires c =
    let partners : List ℕ = c.args.partners.now in
    let lt : get_or c.args.partners.now c.loop-j.j-index 0 < length c.args.images.now.by_class.items =
    c.requires.numbers (get_or c.args.partners.now c.loop-j.j-index 0) (Contains-get_or partners c.loop-j.j-index 0 c.loop-j-test.true) in
    omega (arith, lt)

pub loop-j-preserved : goal.loop-j-preserved
loop-j-preserved c =
    let old : List ℕ = c.loop-j.members.items in
    let new : List ℕ = c.extend.new.members.items in
    let n : ℕ = c.loop-j.j-index in
    let j : ℕ = get_or c.args.partners.now c.loop-j.j-index 0 in
    let within : j < length c.args.images.now.by_class.items =
    c.requires.numbers j (Contains-get_or c.args.partners.now n 0 c.loop-j-test.true) in
    let is : c.index.result.now ≡ image_at c.args.images.now j =
    c.index.ensures ∙ get_or_default c.args.images.now.by_class.items j c.index.result.now 0 within in
    let here : IsKeptBy (image_at c.args.images.now j) c.extend.new.members.items =
    subst (λ x. IsKeptBy x c.extend.new.members.items) is (of_true c.in_ok-extend.field-0 _ c.if-not-branch.false c.in_ok-extend.ensures.kept) in
    record {
      extends = extends_twice c.args.members.now.items old new c.loop-j.invariant.extends c.in_ok-extend.ensures.extends;
      kept = λ k h. elim (cases_lt k c.loop-j.j-index) [
        | inl less ↦ c.in_ok-extend.ensures.extends.kept (image_at c.args.images.now (get_or c.args.partners.now k 0)) (c.loop-j.invariant.kept k less)
        | inr now ↦
            let e : c.loop-j.j-index ≡ k = omega arith in
            subst (λ i. IsKeptBy (image_at c.args.images.now (get_or c.args.partners.now i 0)) c.extend.new.members.items) e here
      ];
    }

pub returns-clause-kept : goal.returns-clause-kept
returns-clause-kept c = λ j there.
    let k : ℕ = there.0 in
    subst (λ i. IsKeptBy (image_at c.args.images.now i) c.loop-j.members.items) (at_same c.args.partners.now there.0 j there.1 there.2)
    (c.loop-j.invariant.kept k (omega (arith, there.1)))
