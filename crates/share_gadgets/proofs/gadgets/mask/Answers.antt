use Rattle.std.proofs.Common.{◌≡◌, ◌%◌, ◌^◌, map, take, ap, ◌∙◌, arith}
use Rattle.std.proofs.lemmas.List.{take_all}
use Rattle.share_gadgets.specs.Gadgets.{mask_shares}
use Rattle.share_gadgets.proofs.ShareLemmas.{mask_step}
use Rattle.share_gadgets.proofs.gadgets.mask.Goals as goal

pub loop-share-preserved : goal.loop-share-preserved
loop-share-preserved g c =
    record {
      many = omega (arith, c.in_ok-push.ensures.len, c.loop-share.invariant.many);
      words = mask_step g.R.Register.word (g.R.Register.word c.of_word-word.result) c.shares-given.result.now c.loop-share.share-index c.share-item.result
          c.loop-share.shares.items c.push.new.self.items c.and.result c.loop-share-test.true c.share-item.is c.loop-share.invariant.words c.in_ok-push.ensures.items
          (ap g.R.Register.word c.and.ensures ∙ g.met.R.Register.word_and c.of_word-word.result c.share-item.result);
    }

pub returns : goal.returns
returns g c =
    let word : g.R.Register.word c.of_word-word.result ≡ c.args.value % 2 ^ g.R.Register.bits =
    ap g.R.Register.word c.of_word-word.ensures ∙ g.met.R.Register.word_of_word c.args.value in
    let whole : take c.loop-share.share-index c.shares-given.result.now ≡ c.args.a.now =
    take_all c.loop-share.share-index c.shares-given.result.now c.loop-share-test.false ∙ c.shares-given.ensures.shares in
    ap (map g.R.Register.word) c.from_vec.ensures ∙ c.loop-share.invariant.words
    ∙ (λ k. mask_shares (word k) (map g.R.Register.word (whole k)))
