use Rattle.std.proofs.Common.{◌≡◌, map, replicate, vec_len}
use Rattle.share_gadgets.proofs.equation.zeros.Given as goal

abbrev pub invariant-loop-k : goal.invariant-loop-k
invariant-loop-k g l =
    record {
      many : vec_len l.zeros ≡ l._k;
      words : map g.R.Register.word l.zeros.items ≡ replicate l._k 0;
    }
