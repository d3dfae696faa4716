use Rattle.std.proofs.Common.{◌<◌, length, map, ap, ◌∙◌, arith}
use Rattle.share_gadgets.specs.Private.PairLoop.{own_product}
use Rattle.share_gadgets.proofs.ShareLemmas.{push_step, product_read}
use Rattle.share_gadgets.proofs.gadgets.own_products.Goals as goal

pub loop-k-preserved : goal.loop-k-preserved
loop-k-preserved g c =
    let k = c.loop-k.k in
    let within : k < length c.args.b.now = omega (arith, c.requires) in
    record {
      many = omega (arith, c.in_ok-push.ensures.len, c.loop-k.invariant.many);
      words = push_step g.R.Register.word (own_product (map g.R.Register.word c.args.a.now) (map g.R.Register.word c.args.b.now))
          c.loop-k.shares.items c.push.new.self.items k c.and.result c.loop-k.invariant.words c.in_ok-push.ensures.items
          (ap g.R.Register.word c.and.ensures
          ∙ product_read g.R.Register.word g.R.Register.xor g.met.R.Register.word_xor g.R.Register.and g.met.R.Register.word_and
          c.args.a.now c.args.b.now k k c.index-a-k.result c.index-b-k.result c.loop-k-test.true within c.index-a-k.is c.index-b-k.is);
    }
