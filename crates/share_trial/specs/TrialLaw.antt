-- What a trial shows: the shares of each output share its word.
use Rattle.std.specs.Prelude.{◌≡◌, ℕ, ◌<◌, All}
use Rattle.usuba0.specs.Circuit.{Circuit, IsCore}
use Rattle.share_gadgets.specs.Sharing.{sharing_value}
use Rattle.share_trial.specs.Trial.{trial_of}

-- of each core, each seed and each number of shares above 0: the exclusive-or of an output's shares is its word
abbrev pub SharesHaveTheValue : Type 0
SharesHaveTheValue = (d : ℕ) (core : Circuit) (seed : ℕ) → 0 < d → IsCore core
    → All (λ output. sharing_value output.shares ≡ output.value) (trial_of d core seed).outputs
