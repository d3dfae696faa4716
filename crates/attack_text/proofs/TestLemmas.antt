-- An attack is in range where its lines pass the tests of their ranges.
use Rattle.std.proofs.Common.{◌≡◌, ℕ, zero, suc, ◌+◌, ◌*◌, ◌<◌, Bool, true, ltb, leb, ◌&&◌, List, [], ◌∷◌, length, refl, subst, arith}
use Rattle.std.specs.List.{All, list_all}
use Rattle.std.proofs.lemmas.Bool.{and_parts, and_from, ltb-true, leb-true, lt-ltb, le-leb}
use Rattle.std.proofs.lemmas.List.Elements.{All-cons}
use Rattle.span_model.specs.Attack.{IsProbe}
use Rattle.linear_view.specs.View.{LinearView}
use Rattle.attack_model.specs.Derivations.{step_at, are_uses}
use Rattle.attack_model.specs.Ranges.{probe_of, IsListing, InRange}
use Rattle.attack_model.specs.declared.attack.Attack.{Attack}
use Rattle.attack_model.specs.declared.attack.Listing.{Listing}
use Rattle.attack_model.specs.declared.attack.Listing.TheVariants.{Probes, Large}
use Rattle.attack_model.specs.declared.attack.Probe.{Probe}
use Rattle.attack_model.specs.declared.attack.Step.{Step}
use Rattle.attack_model.specs.declared.attack.TheConstants.{MAX_PROBES}
use Rattle.attack_text.specs.Ranges.{is_steps_count, is_step, is_probe}

-- steps that pass the test, the first of which has number i
abbrev pub are_steps : LinearView → ℕ → List Step → Bool
are_steps view i [] = true
are_steps view i (step ∷ steps) = is_step view i step && are_steps view (suc i) steps

-- a listing of few enough probes that pass the test
abbrev pub is_listed : LinearView → Listing → Bool
is_listed view (Probes probes) = leb (length probes) MAX_PROBES && list_all (is_probe view (length probes)) probes
is_listed view Large = true

-- an attack whose lines pass the tests
pub record PassesTests (view : LinearView) (attack : Attack) : Type 0 where
  pub leak : length attack.derivation.leak ≡ length view.columns
  pub steps_count : is_steps_count view (length attack.derivation.steps) ≡ true
  pub steps : are_steps view 0 attack.derivation.steps ≡ true
  pub root : are_uses 0 (length attack.derivation.steps) attack.derivation.root ≡ true
  pub listing : is_listed view attack.listing ≡ true

step_parts : (view : LinearView) (i : ℕ) (step : Step) (steps : List Step) → are_steps view i (step ∷ steps) ≡ true
    → (step.product < length view.products) × (are_uses 0 i step.uses ≡ true) × (are_steps view (suc i) steps ≡ true)
step_parts view i step steps h =
    let w = and_parts (is_step view i step) (are_steps view (suc i) steps) h in
    let v = and_parts (ltb step.product (length view.products)) (are_uses 0 i step.uses) w.0 in
    (ltb-true step.product (length view.products) v.0, v.1, w.1)

steps_products : (view : LinearView) (i : ℕ) (steps : List Step) → are_steps view i steps ≡ true → All (λ step. step.product < length view.products) steps
steps_products view i [] h = λ k d within. absurd (omega arith)
steps_products view i (step ∷ steps) h =
    let w = step_parts view i step steps h in
    All-cons (λ s. s.product < length view.products) step steps w.0 (steps_products view (suc i) steps w.2)

steps_uses : (view : LinearView) (i : ℕ) (steps : List Step) → are_steps view i steps ≡ true
    → (k : ℕ) → k < length steps → are_uses 0 (i + k) (step_at steps k).uses ≡ true
steps_uses view i [] h k within = absurd (omega arith)
steps_uses view i (step ∷ steps) h zero within =
    let w = step_parts view i step steps h in
    let same : i ≡ i + 0 = omega arith in
    subst (λ (m : ℕ). are_uses 0 m step.uses ≡ true) same w.1
steps_uses view i (step ∷ steps) h (suc k) within =
    let w = step_parts view i step steps h in
    let same : suc i + k ≡ i + suc k = omega arith in
    subst (λ (m : ℕ). are_uses 0 m (step_at steps k).uses ≡ true) same (steps_uses view (suc i) steps w.2 k (omega arith))

probes_within : (view : LinearView) (t : ℕ) (probes : List Probe) → list_all (is_probe view t) probes ≡ true
    → All (λ listed. IsProbe (length view.products) t (probe_of listed)) probes
probes_within view t [] h = λ k d within. absurd (omega arith)
probes_within view t (probe ∷ probes) h =
    let w = and_parts (is_probe view t probe) (list_all (is_probe view t) probes) h in
    let v = and_parts (ltb probe.product (length view.products) && leb probe.left_share t) (leb probe.right_share t) w.0 in
    let u = and_parts (ltb probe.product (length view.products)) (leb probe.left_share t) v.0 in
    All-cons (λ listed. IsProbe (length view.products) t (probe_of listed)) probe probes
    (record {
      product = ltb-true probe.product (length view.products) u.0;
      left_share = leb-true probe.left_share t u.1;
      right_share = leb-true probe.right_share t v.1;
    }) (probes_within view t probes w.1)

listing_within : (view : LinearView) (listing : Listing) → is_listed view listing ≡ true → IsListing view listing
listing_within view (Probes list) h =
    let w = and_parts (leb (length list) MAX_PROBES) (list_all (is_probe view (length list)) list) h in
    (leb-true (length list) MAX_PROBES w.0, probes_within view (length list) list w.1)
listing_within view Large h = tt

-- an attack whose lines pass the tests is in range
pub tests_in_range : (view : LinearView) (attack : Attack) → PassesTests view attack → InRange view attack
tests_in_range view attack passes = record {
  leak = passes.leak;
  few = leb-true (length attack.derivation.steps) (2 * length view.products) passes.steps_count;
  products = steps_products view 0 attack.derivation.steps passes.steps;
  order = record {
    earlier = λ k h. (
        let same : 0 + k ≡ k = omega arith in
        subst (λ (m : ℕ). are_uses 0 m (step_at attack.derivation.steps k).uses ≡ true) same
        (steps_uses view 0 attack.derivation.steps passes.steps k h));
    within = passes.root;
  };
  listing = listing_within view attack.listing passes.listing;
}

steps_pass : (view : LinearView) (i : ℕ) (steps : List Step) → All (λ step. step.product < length view.products) steps
    → ((k : ℕ) → k < length steps → are_uses 0 (i + k) (step_at steps k).uses ≡ true) → are_steps view i steps ≡ true
steps_pass view i [] within earlier = refl
steps_pass view i (step ∷ steps) within earlier =
    let first : i + 0 ≡ i = omega arith in
    let here : are_uses 0 i step.uses ≡ true = subst (λ (n : ℕ). are_uses 0 n step.uses ≡ true) first (earlier 0 (omega arith)) in
    and_from (is_step view i step) (are_steps view (suc i) steps)
    (and_from (ltb step.product (length view.products)) (are_uses 0 i step.uses)
    (lt-ltb step.product (length view.products) (within 0 step (omega arith))) here)
    (steps_pass view (suc i) steps (λ k d lt. within (suc k) d (omega arith))
    (λ k lt.
    let same : i + suc k ≡ suc i + k = omega arith in
    subst (λ (n : ℕ). are_uses 0 n (step_at steps k).uses ≡ true) same (earlier (suc k) (omega arith))))

probes_pass : (view : LinearView) (t : ℕ) (list : List Probe) → All (λ listed. IsProbe (length view.products) t (probe_of listed)) list
    → list_all (is_probe view t) list ≡ true
probes_pass view t [] within = refl
probes_pass view t (probe ∷ list) within =
    let here = within 0 probe (omega arith) in
    and_from (is_probe view t probe) (list_all (is_probe view t) list)
    (and_from (ltb probe.product (length view.products) && leb probe.left_share t) (leb probe.right_share t)
    (and_from (ltb probe.product (length view.products)) (leb probe.left_share t)
    (lt-ltb probe.product (length view.products) here.product) (le-leb probe.left_share t here.left_share))
    (le-leb probe.right_share t here.right_share))
    (probes_pass view t list (λ k d lt. within (suc k) d (omega arith)))

listing_passes : (view : LinearView) (listing : Listing) → IsListing view listing → is_listed view listing ≡ true
listing_passes view (Probes list) listed =
    and_from (leb (length list) MAX_PROBES) (list_all (is_probe view (length list)) list) (le-leb (length list) MAX_PROBES listed.0)
    (probes_pass view (length list) list listed.1)
listing_passes view Large listed = refl

-- the lines of an attack in range pass the tests
pub in_range_passes : (view : LinearView) (attack : Attack) → InRange view attack → PassesTests view attack
in_range_passes view attack in_range = record {
  leak = in_range.leak;
  steps_count = le-leb (length attack.derivation.steps) (2 * length view.products) in_range.few;
  steps = steps_pass view 0 attack.derivation.steps in_range.products (λ k h.
      let same : k ≡ 0 + k = omega arith in
      subst (λ (n : ℕ). are_uses 0 n (step_at attack.derivation.steps k).uses ≡ true) same (in_range.order.earlier k h));
  root = in_range.order.within;
  listing = listing_passes view attack.listing in_range.listing;
}
