use Rattle.std.proofs.Common.{◌≡◌, map, take, vec_len}
use Rattle.share_gadgets.specs.Private.Cut.{cut_number}
use Rattle.share_gadgets.proofs.equation.cut.Given as goal

abbrev pub invariant-loop-word : goal.invariant-loop-word
invariant-loop-word g l =
    record {
      many : vec_len l.cut ≡ l.word-index;
      words : map g.R.Register.word l.cut.items ≡ map (cut_number l.bits) (take l.word-index l.words);
    }
