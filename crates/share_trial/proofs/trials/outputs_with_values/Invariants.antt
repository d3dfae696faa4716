use Rattle.std.proofs.Common.{◌≡◌, take}
use Rattle.share_trial.proofs.Outputs.{valued}
use Rattle.share_trial.proofs.trials.outputs_with_values.Given as goal

abbrev pub invariant-loop-sharing : goal.invariant-loop-sharing
invariant-loop-sharing g l = l.outputs ≡ valued (take l.sharing-index l.sharings)
