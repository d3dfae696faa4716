-- The attack of a derivation and a listing of its unfolding is in range, and holds.
use Rattle.std.proofs.Common.{◌≡◌, ◌<◌, ◌≤◌, ◌*◌, ℕ, suc, List, [], ◌∷◌, length, Ok, sym, ap, ◌∙◌, subst, arith, All}
use Rattle.std.proofs.lemmas.List.{length-map}
use Rattle.std.proofs.lemmas.List.Elements.{All-cons}
use Rattle.span_model.specs.Columns.{Columns, set_of}
use Rattle.span_model.specs.Attack.{Product, Probe, IsProbe, IsAttack}
use Rattle.linear_view.specs.View.{LinearView, IsView, products_of, product_of}
use Rattle.attack_text.specs.AttackText.{attack_text}
use Rattle.attack_text.specs.Reading.{attack_of}
use Rattle.attack_model.specs.declared.attack.Attack.{Attack}
use Rattle.attack_model.specs.declared.attack.Derivation.{Derivation}
use Rattle.attack_model.specs.declared.attack.Listing.{Listing}
use Rattle.attack_model.specs.declared.attack.Listing.TheVariants.{Probes, Large}
use Rattle.attack_model.specs.declared.attack.Probe.{Probe as Listed}
use Rattle.attack_model.specs.declared.attack.Step.{Step}
use Rattle.attack_probes.specs.Derivations.{IsSound}
use Rattle.attack_probes.specs.Listings.{probes_of, Lists, HoldsBy}
use Rattle.attack_model.specs.Ranges.{InRange, IsListing, probe_of}
use Rattle.attack_model.specs.declared.attack.TheConstants.{MAX_PROBES}
use Rattle.attack_probes.specs.Unfolding.{unfolding_of}
use Rattle.attack_probes.specs.UnfoldingLaws.{UnfoldingIsAttack}
use Rattle.attack_cert.specs.DerivationLaws.{IsDerivedAttack, DerivedAttacksHold}
use Rattle.attack_cert.proofs.Consequences.{derived_few, derived_within, derived_in_order, derived_sound, derived_attack}

-- probes that are within are so where they are listed
listed_within : (P : Probe → Type 0) (list : List Listed) → All P (probes_of list) → All (λ listed. P (probe_of listed)) list
listed_within P [] within = λ k d h. absurd (omega arith)
listed_within P (probe ∷ list) within =
    All-cons (λ listed. P (probe_of listed)) probe list (within 0 (probe_of probe) (omega arith))
    (listed_within P list (λ k d h. within (suc k) d (omega arith)))

-- the listed probes are an attack where the probes are that they list
listed_attack : {C : Type 0} (products : List (Product C)) (leak : Columns C) (list : List Listed) (probes : List Probe) → probes_of list ≡ probes
    → IsAttack products (length probes) leak probes → IsAttack products (length list) leak (probes_of list)
listed_attack products leak list probes same attack =
    subst (λ (n : ℕ). IsAttack products n leak (probes_of list)) (length-map list probe_of)
    (subst (λ (some : List Probe). IsAttack products (length some) leak some) (sym same) attack)

listing_holds : {C : Type 0} (products : List (Product C)) (leak : Columns C) (derivation : Derivation) (listing : Listing) (probes : List Probe) → Lists listing probes
    → IsAttack products (length probes) leak probes → IsSound products leak derivation.steps derivation.root → HoldsBy products leak derivation listing
listing_holds products leak derivation (Probes list) probes lists attack sound = listed_attack products leak list probes lists.1 attack
listing_holds products leak derivation Large probes lists attack sound = sound

listing_in_range : (view : LinearView) (leak : Columns ℕ) (listing : Listing) (probes : List Probe) → Lists listing probes
    → IsAttack (products_of view) (length probes) leak probes → IsListing view listing
listing_in_range view leak (Probes list) probes lists attack =
    let is = listed_attack (products_of view) leak list probes lists.1 attack in (
      subst (λ (n : ℕ). n ≤ MAX_PROBES) (sym (ap length lists.1) ∙ length-map list probe_of) lists.0,
      listed_within (IsProbe (length view.products) (length list)) list
          (subst (λ (n : ℕ). All (IsProbe n (length list)) (probes_of list)) (length-map view.products product_of) is.within),
    )
listing_in_range view leak Large probes lists attack = tt

module _ (law : UnfoldingIsAttack ℕ) (view : LinearView) (attack : Attack) (is : IsDerivedAttack view attack) where
  many : length (products_of view) ≡ length view.products
  many = length-map view.products product_of

  unfolding_attack : IsAttack (products_of view) (length (unfolding_of attack.derivation.steps attack.derivation.root)) (set_of attack.derivation.leak)
      (unfolding_of attack.derivation.steps attack.derivation.root)
  unfolding_attack = derived_attack (products_of view) (set_of attack.derivation.leak) attack.derivation.steps attack.derivation.root is.derivation law

  pub attack_in_range : InRange view attack
  attack_in_range = record {
    leak = is.columns;
    few = subst (λ (n : ℕ). length attack.derivation.steps ≤ 2 * n) many
        (derived_few (products_of view) (set_of attack.derivation.leak) attack.derivation.steps attack.derivation.root is.derivation);
    products = subst (λ (n : ℕ). All (λ (step : Step). step.product < n) attack.derivation.steps) many
        (derived_within (products_of view) (set_of attack.derivation.leak) attack.derivation.steps attack.derivation.root is.derivation);
    order = derived_in_order (products_of view) (set_of attack.derivation.leak) attack.derivation.steps attack.derivation.root is.derivation;
    listing = listing_in_range view (set_of attack.derivation.leak) attack.listing (unfolding_of attack.derivation.steps attack.derivation.root)
        is.listing unfolding_attack;
  }

  pub attack_holds : HoldsBy (products_of view) (set_of attack.derivation.leak) attack.derivation attack.listing
  attack_holds = listing_holds (products_of view) (set_of attack.derivation.leak) attack.derivation attack.listing
      (unfolding_of attack.derivation.steps attack.derivation.root) is.listing unfolding_attack
      (derived_sound (products_of view) (set_of attack.derivation.leak) attack.derivation.steps attack.derivation.root is.derivation)

pub derived_attacks_hold : UnfoldingIsAttack ℕ
    → ((view : LinearView) (attack : Attack) → IsView view → InRange view attack → attack_of view (attack_text view attack) ≡ Ok attack)
    → DerivedAttacksHold
derived_attacks_hold law written = record {
  in_range = attack_in_range law;
  holds = attack_holds law;
  read_back = λ view attack is_view is. written view attack is_view (attack_in_range law view attack is);
}
