use Rattle.std.proofs.Common.{◌++◌, ℕ, List, ap, subst, ◌∙◌}
use Rattle.std.specs.Option.{IfSome}
use Rattle.tightprove.specs.Private.Images.{AreImages}
use Rattle.tightprove.proofs.Clearing.{rests_start}
use Rattle.tightprove.proofs.reaches.known_reach.Goals as goal

pub reach_of_rests-requires-clause-rests : goal.reach_of_rests-requires-clause-rests
reach_of_rests-requires-clause-rests c =
    rests_start c.args.gathered.now.classes.list.items c.in-Some.images c.as_mut_slice.result.now
    (subst (λ own. IfSome own (λ x. AreImages c.args.gathered.now.classes.list.items x)) c.in-Some.is c.requires.ready.images)
    (c.as_mut_slice.ensures.value ∙ c.in_ok-extend_from_slice.ensures.items
    ∙ ap (λ (xs : List ℕ). xs ++ c.as_slice.result.now) c.new-rests.ensures.items ∙ c.as_slice.ensures.value)
