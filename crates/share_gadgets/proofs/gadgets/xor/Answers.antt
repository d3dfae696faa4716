use Rattle.std.proofs.Common.{◌≡◌, ◌<◌, length, map, ap, ◌∙◌, arith}
use Rattle.share_gadgets.specs.Gadgets.{xor_share}
use Rattle.share_gadgets.proofs.ShareLemmas.{push_step, xor_read}
use Rattle.share_gadgets.proofs.gadgets.xor.Goals as goal

pub loop-k-preserved : goal.loop-k-preserved
loop-k-preserved g c =
    let k = c.loop-k.k in
    let left : length c.shares-left.result.now ≡ g.row.D = ap length c.shares-left.ensures.shares ∙ c.shares-left.ensures.count in
    let right : length c.shares-right.result.now ≡ g.row.D = ap length c.shares-right.ensures.shares ∙ c.shares-right.ensures.count in
    let within : k < length c.shares-right.result.now = omega (arith, left, right, c.loop-k-test.true) in
    record {
      many = omega (arith, c.in_ok-push.ensures.len, c.loop-k.invariant.many);
      words = push_step g.R.Register.word (xor_share (map g.R.Register.word c.shares-left.result.now) (map g.R.Register.word c.shares-right.result.now))
          c.loop-k.shares.items c.push.new.self.items k c.xor.result c.loop-k.invariant.words c.in_ok-push.ensures.items
          (ap g.R.Register.word c.xor.ensures
          ∙ xor_read g.R.Register.word g.R.Register.xor g.met.R.Register.word_xor
          c.shares-left.result.now c.shares-right.result.now k c.index-left-k.result c.index-right-k.result c.loop-k-test.true within c.index-left-k.is c.index-right-k.is);
    }
