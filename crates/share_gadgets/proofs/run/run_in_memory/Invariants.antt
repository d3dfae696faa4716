use Rattle.std.proofs.Common.{◌≡◌, map, take}
use Rattle.share_gadgets.specs.MaskedRun.{sharing_at}
use Rattle.share_gadgets.proofs.run.run_in_memory.Given as goal

abbrev pub invariant-loop-k : goal.invariant-loop-k
invariant-loop-k g l =
    map (map g.R.Register.word) l.outputs ≡ map (sharing_at (map (map g.R.Register.word) l.sharings.items)) (take l.k l.core.outputs)
