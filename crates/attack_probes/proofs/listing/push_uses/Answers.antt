use Rattle.std.proofs.Common.{◌++◌, ℕ, List, map, ap, ◌∙◌}
use Rattle.std.proofs.lemmas.Iterator.Adapters.{YieldsList-from_rev_slice}
use Rattle.std.proofs.lemmas.Iterator.Consumers.{YieldsList-end}
use Rattle.attack_probes.proofs.Stacking.{use_under}
use Rattle.attack_probes.proofs.listing.push_uses.Goals as goal

pub returns : goal.returns
returns c =
    let all = YieldsList-end (YieldsList-from_rev_slice c.args.uses.now cc) c.loop-k.yielded _ c.loop-k.yielded_by _ _ c.in-None.is c.next.ensures.steps in
    c.loop-k.invariant ∙ ap (λ (x : List ℕ). c.args.stack.now.items ++ map (use_under c.args.user) x) all.0
