-- The unfolding of a derivation: its probes, with each use of a step on a share of its own.
use Rattle.std.specs.Prelude.{ℕ, zero, suc, ◌+◌, List, [], ◌∷◌, ◌++◌, length}
use Rattle.span_model.specs.Attack.{Probe}
use Rattle.linear_view.specs.declared.operand.Side.{Side}
use Rattle.linear_view.specs.declared.operand.Side.TheVariants.{Left, Right}
use Rattle.attack_model.specs.declared.attack.Step.{Step}
use Rattle.attack_model.specs.Derivations.{step_at}

-- the probe of a product with its operand on this side at the share `own`, and the other operand at the share `other`
abbrev pub probe_on : Side → (product own other : ℕ) → Probe
probe_on Left product own other = record { product = product; left_share = own; right_share = other }
probe_on Right product own other = record { product = product; left_share = other; right_share = own }

-- the probes of uses under the share `user`, one use after the other, where `probes_of_use k user new` are those of one use of step k.
-- The shares from `new` on are free, and each probe takes the next of them
abbrev pub in_turn : (probes_of_use : (k user new : ℕ) → List Probe) → (uses : List ℕ) → (user new : ℕ) → List Probe
in_turn probes_of_use [] user new = []
in_turn probes_of_use (k ∷ uses) user new =
    probes_of_use k user new ++ in_turn probes_of_use uses user (new + length (probes_of_use k user new))

-- the probes of a use of step k under the share `user`: the step's operand gets the next free share and its co-operand the share `user`,
-- and then come the step's own uses under its new share. Uses are followed to so many levels
abbrev pub unfolded : (levels : ℕ) → List Step → (k user new : ℕ) → List Probe
unfolded zero steps k user new = []
unfolded (suc levels) steps k user new =
    probe_on (step_at steps k).side (step_at steps k).product new user ∷ in_turn (unfolded levels steps) (step_at steps k).uses new (suc new)

-- the probes of the root's uses under the share 0. Each step uses steps before it, so there are no more levels than steps
abbrev pub unfolding_of : List Step → (root : List ℕ) → List Probe
unfolding_of steps root = in_turn (unfolded (length steps) steps) root 0 1
