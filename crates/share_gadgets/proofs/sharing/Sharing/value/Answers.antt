use Rattle.std.proofs.Common.{ap, ◌∙◌}
use Rattle.share_gadgets.proofs.ShareLemmas.{sum_step}
use Rattle.share_gadgets.proofs.sharing.Sharing.value.Goals as goal

pub loop-share-preserved : goal.loop-share-preserved
loop-share-preserved g c =
    ap g.R.Register.word (c.xor-sum.ensures ∙ ap (g.R.Register.xor c.loop-share.sum) c.share-item.is)
    ∙ sum_step g.R.Register.word g.R.Register.xor g.met.R.Register.word_xor c.loop-share.sum c.deref-share-items.result.now c.loop-share.share-index c.share-item.result
    c.loop-share-test.true c.loop-share.invariant
