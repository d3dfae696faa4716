use Rattle.std.proofs.Common.{◌≡◌, map, take, vec_len}
use Rattle.share_gadgets.specs.Gadgets.{mask_shares}
use Rattle.share_gadgets.proofs.gadgets.mask.Given as goal

abbrev pub invariant-loop-share : goal.invariant-loop-share
invariant-loop-share g l =
    record {
      many : vec_len l.shares ≡ l.share-index;
      words : map g.R.Register.word l.shares.items
          ≡ mask_shares (g.R.Register.word l.word) (map g.R.Register.word (take l.share-index l.given));
    }
