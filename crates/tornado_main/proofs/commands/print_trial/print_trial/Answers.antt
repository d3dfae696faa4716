use Rattle.std.proofs.Common.{[], refl, ap}
use Rattle.share_trial.specs.TrialText.{trial_text}
use Rattle.share_trial.specs.declared.trials.Trial.{Trial}
use Rattle.tornado_main.specs.Outcome.{answers}
use Rattle.tornado_main.specs.declared.status.Status.TheVariants.{Done}
use Rattle.tornado_main.proofs.EndingLemmas.{stopped, no_memory, answered, unsent}
use Rattle.tornado_main.proofs.StepLemmas.{stops_anyway, goes_on_with}
use Rattle.tornado_main.proofs.commands.print_trial.print_trial.Goals as goal

pub returns-in_err-core : goal.returns-in_err-core
returns-in_err-core g c =
    stopped [] c.in_err-core.field-0.0 c.from_residual.ensures.1 refl c.in_err-core.ensures.fetched (stops_anyway _ _ _ _ _ _ _ c.in_err-core.ensures.refused)

pub returns-in_err-trial : goal.returns-in_err-trial
returns-in_err-trial g c = no_memory [] c.from_residual-in_err-trial.ensures.1 refl c.in_ok-core.ensures.fetched

pub returns-in_err-send : goal.returns-in_err-send
returns-in_err-send g c =
    unsent (trial_text c.in_ok-trial.trial) Done c.in_err-send.field-0.0 c.from_residual-in_err-send.ensures.1 c.in_ok-core.ensures.fetched
    (goes_on_with _ _ _ _ _ _ c.in_ok-core.core _ c.in_ok-core.ensures.core (ap (λ (t : Trial). answers (trial_text t) Done) c.in_ok-trial.ensures)) c.in_err-send.ensures

pub returns : goal.returns
returns g c =
    answered (trial_text c.in_ok-trial.trial) Done c.in_ok-core.ensures.fetched
    (goes_on_with _ _ _ _ _ _ c.in_ok-core.core _ c.in_ok-core.ensures.core (ap (λ (t : Trial). answers (trial_text t) Done) c.in_ok-trial.ensures)) c.in_ok-send.ensures
