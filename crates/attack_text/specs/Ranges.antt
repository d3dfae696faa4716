-- What a line of an attack text may say.
use Rattle.std.specs.Prelude.{ℕ, ◌*◌, Bool, ◌&&◌, nat_lt, nat_le, length}
use Rattle.linear_view.specs.View.{LinearView}
use Rattle.attack_model.specs.Derivations.{are_uses}
use Rattle.attack_model.specs.declared.attack.Probe.{Probe}
use Rattle.attack_model.specs.declared.attack.Step.{Step}

-- N is at most two for each product
abbrev pub is_steps_count : LinearView → ℕ → Bool
is_steps_count view n = nat_le n (2 * length view.products)

-- step number i takes a product of the view, and uses earlier steps
abbrev pub is_step : LinearView → ℕ → Step → Bool
is_step view i step = nat_lt step.product (length view.products) && are_uses 0 i step.uses

-- one of t probes takes a product of the view, and shares of 0 to t
abbrev pub is_probe : LinearView → ℕ → Probe → Bool
is_probe view t probe = nat_lt probe.product (length view.products) && nat_le probe.left_share t && nat_le probe.right_share t
