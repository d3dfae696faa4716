-- What an attack on the circuit of a view holds.
use Rattle.std.specs.Prelude.{◌≡◌, ◌*◌, ◌<◌, ◌≤◌, List, length, All, ⊤}
use Rattle.span_model.specs.Attack.{Probe, IsProbe}
use Rattle.linear_view.specs.View.{LinearView}
use Rattle.attack_model.specs.declared.attack.Attack.{Attack}
use Rattle.attack_model.specs.declared.attack.Listing.{Listing}
use Rattle.attack_model.specs.declared.attack.Listing.TheVariants.{Probes, Large}
use Rattle.attack_model.specs.declared.attack.Probe.{Probe as Listed}
use Rattle.attack_model.specs.declared.attack.TheConstants.{MAX_PROBES}
use Rattle.attack_model.specs.Derivations.{IsInOrder}

-- a listed probe, as a probe on shares of any number
abbrev pub probe_of : Listed → Probe
probe_of listed = record { product = listed.product; left_share = listed.left_share; right_share = listed.right_share }

-- few enough probes, each of a product of the view and on shares from 0 to their count
abbrev pub IsListing : LinearView → Listing → Type 0
IsListing view (Probes list) =
    (length list ≤ MAX_PROBES) × All (λ listed. IsProbe (length view.products) (length list) (probe_of listed)) list
IsListing view Large = ⊤

-- an attack on the circuit of a view, as far as its numbers go: the leak is over the view's columns, there are at most
-- two steps for each product, each takes a product of the view, and they are in order
pub record InRange (view : LinearView) (attack : Attack) : Type 0 where
  pub leak : length attack.derivation.leak ≡ length view.columns
  pub few : length attack.derivation.steps ≤ 2 * length view.products
  pub products : All (λ step. step.product < length view.products) attack.derivation.steps
  pub order : IsInOrder attack.derivation.steps attack.derivation.root
  pub listing : IsListing view attack.listing
