use Rattle.std.proofs.Common.{◌≡◌, ◌<◌, length, take}
use Rattle.share_trial.proofs.trials.shares_of.Given as goal

abbrev pub invariant-loop-k : goal.invariant-loop-k
invariant-loop-k g l =
    record {
      taken : l.shares ≡ take l.k l.sharing;
      count : 0 < l.k → length l.sharing ≡ g.row.D;
    }
