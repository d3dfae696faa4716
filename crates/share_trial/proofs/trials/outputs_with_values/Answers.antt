use Rattle.std.proofs.Common.{ap, ◌∙◌, map-id}
use Rattle.share_gadgets.specs.Sharing.{sharing_value}
use Rattle.share_trial.proofs.Outputs.{valued_next}
use Rattle.share_trial.proofs.trials.outputs_with_values.Goals as goal

pub loop-sharing-preserved : goal.loop-sharing-preserved
loop-sharing-preserved g c =
    valued_next c.args.sharings.now c.loop-sharing.sharing-index c.sharing-item.result c.value.result c.in_ok-shares.shares
    c.loop-sharing.outputs c.push.new.self c.loop-sharing-test.true c.sharing-item.is
    (c.value.ensures ∙ ap sharing_value (map-id c.sharing-item.result)) c.in_ok-shares.ensures c.loop-sharing.invariant c.in_ok-push.ensures.ok
