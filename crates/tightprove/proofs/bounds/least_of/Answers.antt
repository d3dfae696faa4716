use Rattle.std.proofs.Common.{List, ℕ, subst}
use Rattle.std.proofs.lemmas.List.{take_all}
use Rattle.tightprove.specs.Private.Bounds.{IsLeastOf}
use Rattle.tightprove.proofs.Raising.{least_none, least_more}
use Rattle.tightprove.proofs.bounds.least_of.Goals as goal

pub loop-bound-init : goal.loop-bound-init
loop-bound-init c = least_none c.args.most

pub loop-bound-preserved : goal.loop-bound-preserved
loop-bound-preserved c =
    least_more c.args.bounds.now c.args.most c.loop-bound.bound-index c.loop-bound.least c.min-least.result c.loop-bound-test.true c.loop-bound.invariant c.min-least.ensures

pub returns : goal.returns
returns c =
    subst (λ (l : List ℕ). IsLeastOf l c.args.most c.loop-bound.least) (take_all c.loop-bound.bound-index c.args.bounds.now c.loop-bound-test.false)
    c.loop-bound.invariant
