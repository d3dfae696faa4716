use Rattle.std.proofs.Common.{ℕ, List, [], ◌∷◌, ◌++◌, sym, ap, ◌∙◌}
use Rattle.usuba0.proofs.StartLemmas.{range-push_zero}
use Rattle.usuba0.proofs.finish.input_places.Goals as goal

pub loop-k-preserved : goal.loop-k-preserved
loop-k-preserved c =
    c.in_ok-push.ensures.items ∙ ap (λ (l : List ℕ). l ++ c.loop-k.k ∷ []) c.loop-k.invariant ∙ sym (range-push_zero c.loop-k.k)
