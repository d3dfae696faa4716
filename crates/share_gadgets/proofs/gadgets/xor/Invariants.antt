use Rattle.std.proofs.Common.{◌≡◌, map, vec_len}
use Rattle.std.specs.List.{range_with_len}
use Rattle.share_gadgets.specs.Gadgets.{xor_share}
use Rattle.share_gadgets.proofs.gadgets.xor.Given as goal

abbrev pub invariant-loop-k : goal.invariant-loop-k
invariant-loop-k g l =
    record {
      many : vec_len l.shares ≡ l.k;
      words : map g.R.Register.word l.shares.items
          ≡ map (xor_share (map g.R.Register.word l.left) (map g.R.Register.word l.right)) (range_with_len 0 l.k);
    }
