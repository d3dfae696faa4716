use Rattle.std.proofs.Common.{◌≡◌, [], ◌∷◌, ◌++◌, length, sym, ◌∙◌, arith}
use Rattle.std.proofs.lemmas.List.{take_more}
use Rattle.share_gadgets.proofs.RunSteps.{all_take_more}
use Rattle.share_gadgets.proofs.run.copies.Goals as goal

pub loop-input-preserved : goal.loop-input-preserved
loop-input-preserved g c =
    let given = c.as_slice-given.result.now in
    let i = c.loop-input.input-index in
    let copied = c.in_ok-copy.ensures.same ∙ c.input-item.is in
    record {
      many = omega (arith, c.in_ok-push.ensures.len, c.loop-input.invariant.many);
      items = c.in_ok-push.ensures.items ∙ (λ k. c.loop-input.invariant.items k ++ copied k ∷ [])
          ∙ sym (take_more given i c.input-item.result c.loop-input-test.true);
      counts = all_take_more (λ sharing. length sharing ≡ g.row.D) given i c.input-item.result c.loop-input-test.true c.input-item.is c.loop-input.invariant.counts c.in_ok-copy.ensures.count;
    }
