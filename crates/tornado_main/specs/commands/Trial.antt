-- `trial FILE D SEED`
use Rattle.std.specs.Prelude.{◌≡◌, ℕ, List}
use Rattle.share_trial.specs.Trial.{trial_of}
use Rattle.share_trial.specs.TrialText.{trial_text}
use Rattle.tornado_words.specs.declared.order.Basis.{Basis}
use Rattle.tornado_main.specs.Files.{Contents}
use Rattle.tornado_main.specs.Outcome.{Outcome, answers}
use Rattle.tornado_main.specs.Steps.{AfterCore}
use Rattle.tornado_main.specs.declared.status.Status.TheVariants as status

-- it prints the trial of the core on so many shares, from this seed
abbrev pub TrialEnds : Contents → (file : List ℕ) → (shares seed : ℕ) → Basis → Outcome → Type 0
TrialEnds contents file shares seed basis =
    AfterCore contents file basis (λ core end. end ≡ answers (trial_text (trial_of shares core seed)) status.Done)
