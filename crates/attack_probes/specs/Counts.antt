-- How many probes the steps of a derivation unfold to, in counts that stop at `MANY`.
use Rattle.std.specs.Prelude.{◌≡◌, ◌<◌, ℕ, List, length, min, slice_index}
use Rattle.attack_model.specs.declared.attack.Step.{Step}
use Rattle.attack_probes.specs.declared.listing.TheConstants.{MANY}
use Rattle.attack_probes.specs.Unfolding.{unfolded}

-- for each step there is the count of the probes of one use of it
pub record AreCounts (steps : List Step) (counts : List ℕ) : Type 0 where
  pub each : length counts ≡ length steps
  pub counted : (k : ℕ) → k < length steps → slice_index counts k ≡ min (length (unfolded (length steps) steps k 0 1)) MANY
