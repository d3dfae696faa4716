use Rattle.std.proofs.Common.{◌≡◌, ◌<◌, ℕ, List, Some, length, subst, sym, rules, arith}
use Rattle.std.specs.Prelude.{nat_eq}
use Rattle.std.specs.HashMap.{get}
use Rattle.std.specs.List.{Contains}
use Rattle.tightprove.specs.declared.class.Class.{Class}
use Rattle.tightprove.proofs.Calls.{on_true, of_true}
use Rattle.tightprove.proofs.Taking.{partners_at}
use Rattle.tightprove.proofs.Reaching.{takes_found}
use Rattle.tightprove.proofs.cosets.take_member.Goals as goal

pub take_partners-requires-clause-numbers : goal.take_partners-requires-clause-numbers
take_partners-requires-clause-numbers c = λ j there.
    let classes : List Class = c.args.classes.now.list.items in
    let found : get nat_eq c.args.images.now.class_of c.args.member ≡ Some c.in-Some.i = search rules in
    let lt : c.in-Some.i < length c.args.classes.now.list.items = c.requires.images.1.numbers c.args.member c.in-Some.i found in
    let is = partners_at classes c.in-Some.i c.index.result.now c.as_slice.result.now lt c.index.ensures c.as_slice.ensures in
    let within : j < length c.args.classes.now.list.items = c.requires.classes.classes.partners c.in-Some.i j (subst (λ (xs : List ℕ). Contains xs j) is there) in
    omega (arith, c.requires.images.1.count)

pub returns-in_ok-room-in-Some-clause-taken : goal.returns-in_ok-room-in-Some-clause-taken
returns-in_ok-room-in-Some-clause-taken c =
    let classes : List Class = c.args.classes.now.list.items in
    let found : get nat_eq c.args.images.now.class_of c.args.member ≡ Some c.in-Some.i = search rules in
    let lt : c.in-Some.i < length c.args.classes.now.list.items = c.requires.images.1.numbers c.args.member c.in-Some.i found in
    let is = partners_at classes c.in-Some.i c.index.result.now c.as_slice.result.now lt c.index.ensures c.as_slice.ensures in
    on_true c.in_ok-room-in-Some.room _ (λ yes.
    takes_found c.args.classes.now.list.items c.args.images.now c.args.member c.in-Some.i c.take_partners.new.members.items c.requires.images found
    (λ j partner. of_true c.in_ok-room-in-Some.room _ yes c.in_ok-room-in-Some.ensures.kept j (subst (λ (xs : List ℕ). Contains xs j) (sym is) partner)))
