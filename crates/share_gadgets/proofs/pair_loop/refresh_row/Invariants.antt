use Rattle.std.proofs.Common.{◌≡◌, length, map, vec_len}
use Rattle.std.specs.Prelude.{slice_index}
use Rattle.share_gadgets.specs.Private.PairLoop.{refreshed_before}
use Rattle.share_gadgets.proofs.pair_loop.refresh_row.Given as goal

abbrev pub invariant-loop-j : goal.invariant-loop-j
invariant-loop-j g l =
    record {
      many : vec_len l.shares ≡ length l.a;
      before : map g.R.Register.word l.shares.items
          ≡ refreshed_before (length l.a) (map g.R.Register.word l.a) (slice_index (map g.R.Register.word l.words)) l.i l.j;
    }
