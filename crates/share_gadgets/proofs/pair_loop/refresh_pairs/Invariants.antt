use Rattle.std.proofs.Common.{◌≡◌, ◌+◌, length, map, vec_len}
use Rattle.std.specs.Prelude.{slice_index}
use Rattle.share_gadgets.specs.Private.PairLoop.{row_start, refreshed_before}
use Rattle.share_gadgets.proofs.pair_loop.refresh_pairs.Given as goal

abbrev pub invariant-loop-i : goal.invariant-loop-i
invariant-loop-i g l =
    record {
      many : vec_len l.shares ≡ length l.a;
      place : l.start ≡ row_start (length l.a) l.i;
      before : map g.R.Register.word l.shares.items
          ≡ refreshed_before (length l.a) (map g.R.Register.word l.a) (slice_index (map g.R.Register.word l.words)) l.i (l.i + 1);
    }
