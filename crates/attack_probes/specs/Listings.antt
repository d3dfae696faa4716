-- Listings of probes, and when an attack holds.
use Rattle.std.specs.Prelude.{◌≡◌, ◌<◌, ◌≤◌, List, length, map}
use Rattle.span_model.specs.Columns.{Columns, set_of}
use Rattle.span_model.specs.Attack.{Product, Probe, IsAttack}
use Rattle.linear_view.specs.View.{LinearView, products_of}
use Rattle.attack_model.specs.declared.attack.Probe.{Probe as Listed}
use Rattle.attack_model.specs.declared.attack.Derivation.{Derivation}
use Rattle.attack_model.specs.declared.attack.Listing.{Listing}
use Rattle.attack_model.specs.declared.attack.Listing.TheVariants.{Probes, Large}
use Rattle.attack_model.specs.declared.attack.Attack.{Attack}
use Rattle.attack_model.specs.declared.attack.TheConstants.{MAX_PROBES}
use Rattle.attack_model.specs.Ranges.{probe_of}
use Rattle.attack_probes.specs.Derivations.{IsSound}

-- the listed probes
abbrev pub probes_of : List Listed → List Probe
probes_of list = map probe_of list

-- the listing has these probes, or is `Large` where they are more than are listed
abbrev pub Lists : Listing → List Probe → Type 0
Lists (Probes list) probes = (length probes ≤ MAX_PROBES) × (probes_of list ≡ probes)
Lists Large probes = MAX_PROBES < length probes

-- the leak holds on the products: the listed probes are an attack with it or, where none are listed, the derivation is sound
abbrev pub HoldsBy : {C : Type 0} → List (Product C) → Columns C → Derivation → Listing → Type 0
HoldsBy products leak derivation (Probes list) = IsAttack products (length list) leak (probes_of list)
HoldsBy products leak derivation Large = IsSound products leak derivation.steps derivation.root

-- the attack holds on the products of the view
abbrev pub Holds : LinearView → Attack → Type 0
Holds view attack = HoldsBy (products_of view) (set_of attack.derivation.leak) attack.derivation attack.listing
