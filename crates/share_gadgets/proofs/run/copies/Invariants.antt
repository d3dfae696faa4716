use Rattle.std.proofs.Common.{◌≡◌, All, length, take, vec_len}
use Rattle.share_gadgets.proofs.run.copies.Given as goal

abbrev pub invariant-loop-input : goal.invariant-loop-input
invariant-loop-input g l =
    record {
      many : vec_len l.copies ≡ l.input-index;
      items : l.copies.items ≡ take l.input-index l.given;
      counts : All (λ sharing. length sharing ≡ g.row.D) (take l.input-index l.given);
    }
