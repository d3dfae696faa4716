use Rattle.std.proofs.Common.{◌≡◌, ◌<◌, ◌≤◌, ℕ, List, not, length, get_or, subst, ◌∙◌, arith}
use Rattle.std.specs.List.{Contains}
use Rattle.std.proofs.lemmas.List.{get_or_default}
use Rattle.tightprove.specs.Private.Images.{image_at, TakesPartners}
use Rattle.tightprove.specs.declared.class.Class.{Class}
use Rattle.tightprove.proofs.Calls.{on_true, of_true}
use Rattle.tightprove.proofs.Reaching.{coset_clean, at_same, contains_at, takes_more, test_misses, not_true}
use Rattle.tightprove.proofs.cosets.is_apart.Goals as goal

pub returns-then-k-len : goal.returns-then-k-len
returns-then-k-len c = on_true (not c.contains.result) _ (λ yes.
    let members : List ℕ = c.loop-k.members.items in
    let state = c.loop-k.invariant in
    let all : length c.loop-k.members.items ≤ c.loop-k.k = omega arith in
    coset_clean c.args.classes.now.list.items c.args.images.now c.args.i members c.requires.images c.requires.classes.classes.partners c.requires.i
    (contains_at members 0 (image_at c.args.images.now c.args.i) state.some state.first)
    (λ m there. subst (λ x. TakesPartners c.args.classes.now.list.items c.args.images.now x c.loop-k.members.items)
    (at_same members there.0 m there.1 there.2) (state.taken there.0 (omega (arith, there.1))))
    (subst (λ (xs : List ℕ). ¬ Contains xs 0) c.deref.ensures.value
    (test_misses c.deref.result.now 0 c.contains.result c.contains.ensures.cases (not_true c.contains.result yes))))

pub loop-k-preserved : goal.loop-k-preserved
loop-k-preserved c =
    let classes : List Class = c.args.classes.now.list.items in
    let old : List ℕ = c.loop-k.members.items in
    let new : List ℕ = c.take_member.new.members.items in
    let state = c.loop-k.invariant in
    let more = c.in_ok-take_member.ensures.extends in
    let lt : c.loop-k.k < length c.loop-k.members.items = omega arith in
    let is : c.index-member.result.now ≡ get_or c.loop-k.members.items c.loop-k.k 0 =
    c.index-member.ensures ∙ get_or_default c.loop-k.members.items c.loop-k.k c.index-member.result.now 0 lt in
    record {
      some = omega (arith, more.longer, state.some);
      coset = more.coset;
      within = omega (arith, more.longer);
      first = more.front 0 state.some ∙ state.first;
      taken = takes_more classes c.args.images.now old new c.loop-k.k c.index-member.result.now more lt is state.taken
          (of_true c.in_ok-take_member.field-0 _ c.if-not-branch.false c.in_ok-take_member.ensures.taken);
    }
