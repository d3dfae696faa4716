use Rattle.std.proofs.Common.{◌≡◌, map, vec_len}
use Rattle.std.specs.List.{range_with_len}
use Rattle.share_gadgets.specs.Private.PairLoop.{own_product}
use Rattle.share_gadgets.proofs.gadgets.own_products.Given as goal

abbrev pub invariant-loop-k : goal.invariant-loop-k
invariant-loop-k g l =
    record {
      many : vec_len l.shares ≡ l.k;
      words : map g.R.Register.word l.shares.items
          ≡ map (own_product (map g.R.Register.word l.a) (map g.R.Register.word l.b)) (range_with_len 0 l.k);
    }
