use Rattle.std.proofs.Common.{[], ◌∷◌, ◌++◌, ap, ◌∙◌}
use Rattle.linear_view.specs.View.{Operands}
use Rattle.linear_view.proofs.WithLemmas.{pairs_next}
use Rattle.linear_view.proofs.view.pairs.Goals as goal

pub loop-rows-preserved-in_ok-push : goal.loop-rows-preserved-in_ok-push
loop-rows-preserved-in_ok-push c =
    let next = pairs_next c.loop-rows.left c.pop.new.self c.loop-rows.right c.pop-in-Some.new.self c.in-Some.rows c.in-Some-pop.others c.loop-rows.pairs.items c.push.new.self.items _
    c.loop-rows.invariant.count c.in-Some.ensures c.in-Some-pop.ensures
    (c.in_ok-push.ensures.items ∙ ap (λ (p : Operands). c.loop-rows.pairs.items ++ p ∷ []) c.in_ok-paired.ensures) c.loop-rows.invariant.pairs in
    record { count = next.0; pairs = next.1 }
