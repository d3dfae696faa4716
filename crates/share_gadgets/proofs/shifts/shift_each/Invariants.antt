use Rattle.std.proofs.Common.{◌≡◌, map, take, vec_len}
use Rattle.share_gadgets.specs.Private.Shift.{shifted}
use Rattle.share_gadgets.proofs.shifts.shift_each.Given as goal

abbrev pub invariant-loop-share : goal.invariant-loop-share
invariant-loop-share g l =
    record {
      many : vec_len l.shares ≡ l.share-index;
      words : map g.R.Register.word l.shares.items ≡ map (shifted l.bits l.by) (map g.R.Register.word (take l.share-index l.given));
    }
