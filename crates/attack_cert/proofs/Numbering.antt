-- Numbers in place of places.
use Rattle.std.proofs.Common.{◌≡◌, ◌<◌, ◌+◌, inl, inr, ℕ, suc, List, [], ◌∷◌, length, map, get_or, set, refl, sym, ap, ◌∙◌, subst, arith, All}
use Rattle.std.specs.Prelude.{slice_index}
use Rattle.std.specs.List.{Contains}
use Rattle.std.proofs.lemmas.Bool.{cases_lt}
use Rattle.std.proofs.lemmas.List.{length-map, get_or-map, get_or-set_same, get_or-set_other, get_or_default}
use Rattle.span_model.specs.Closure.{Step as ProductStep}
use Rattle.linear_view.specs.declared.operand.Side.TheVariants.{Left}
use Rattle.linear_view.specs.Sides.{step_of}
use Rattle.attack_model.specs.declared.attack.Step.{Step}
use Rattle.attack_probes.specs.Derivations.{product_step}
use Rattle.attack_model.specs.Derivations.{step_at}
use Rattle.attack_cert.specs.Derivation.{places_of}
use Rattle.attack_cert.specs.Kept.{levelled_at, kept_places, StandFor, AreNumbered}
use Rattle.attack_cert.specs.declared.levels.Levelled.{Levelled}
use Rattle.attack_cert.specs.declared.reached.Kept.{Kept}
use Rattle.attack_cert.proofs.Picks.{IsRising, rising_once}

-- a step that is kept, with its numbers
abbrev pub numbered_step : List Levelled → List ℕ → Kept → Step
numbered_step listed numbers kept = record {
  product = (levelled_at listed kept.place).operand.product;
  side = (levelled_at listed kept.place).operand.side;
  uses = map (slice_index numbers) kept.uses;
}

-- one more place has its number
pub numbers_more : (numbers places : List ℕ) (i : ℕ) → IsRising places → i < length places → get_or places i 0 < length numbers
    → ((k : ℕ) → k < i → get_or numbers (get_or places k 0) 0 ≡ k)
    → (k : ℕ) → k < i + 1 → get_or (set numbers (get_or places i 0) i) (get_or places k 0) 0 ≡ k
numbers_more numbers places i rise within fits before k lt = elim (cases_lt k i) [
  | inl less ↦
      get_or-set_other numbers (get_or places i 0) (get_or places k 0) i 0 (λ e. let same : k ≡ i = rising_once places rise k i (omega arith) within e in absurd (omega arith))
      ∙ before k less
  | inr more ↦ (
      let e : i ≡ k = omega arith in
      subst (λ (n : ℕ). get_or (set numbers (get_or places i 0) i) (get_or places n 0) 0 ≡ n) e (get_or-set_same numbers (get_or places i 0) i 0 fits)
      )
]

-- each place has a number
abbrev pub HaveNumbers : (numbers places : List ℕ) → Type 0
HaveNumbers numbers places = (k : ℕ) → k < length places → get_or numbers (get_or places k 0) 0 ≡ k

-- the number of a place of those that are kept
number_found : (numbers places : List ℕ) → HaveNumbers numbers places → (place : ℕ) → Contains places place
    → (get_or numbers place 0 < length places) × (get_or places (get_or numbers place 0) 0 ≡ place)
number_found numbers places have place (k, lt, e) =
    let is : get_or places k 0 ≡ place = get_or_default places k 0 place lt ∙ e in
    let number : k ≡ get_or numbers place 0 = sym (have k lt) ∙ ap (λ (p : ℕ). get_or numbers p 0) is in
    (subst (λ (n : ℕ). n < length places) number lt, ap (λ (n : ℕ). get_or places n 0) (sym number) ∙ is)

pub stand_for : (numbers places uses : List ℕ) → HaveNumbers numbers places → All (Contains places) uses → StandFor places (map (slice_index numbers) uses) uses
stand_for numbers places uses have kept = record {
  below = λ k d h.
      let within : k < length uses = omega (arith, length-map uses (slice_index numbers)) in
      subst (λ (n : ℕ). n < length places) (sym (get_or-map (slice_index numbers) uses k 0 d within)) (number_found numbers places have (get_or uses k 0) (kept k 0 within)).0;
  same = places_back uses kept;
} where
  places_back : (uses : List ℕ) → All (Contains places) uses → places_of places (map (slice_index numbers) uses) ≡ uses
  places_back [] kept = refl
  places_back (use' ∷ uses) kept =
      ap (λ (n : ℕ). n ∷ places_of places (map (slice_index numbers) uses)) (number_found numbers places have use' (kept 0 0 (omega arith))).1
      ∙ ap (λ (ns : List ℕ). use' ∷ ns) (places_back uses (λ k d h. kept (suc k) d (omega arith)))

-- the steps that are kept are numbered
pub are_numbered : (listed : List Levelled) (root numbers numbered_root : List ℕ) (kept : List Kept) (steps : List Step)
    → HaveNumbers numbers (kept_places kept)
    → All (Contains (kept_places kept)) root → All (λ step. All (Contains (kept_places kept)) step.uses) kept
    → steps ≡ map (numbered_step listed numbers) kept → numbered_root ≡ map (slice_index numbers) root
    → AreNumbered listed root kept steps numbered_root
are_numbered listed root numbers numbered_root kept steps have root_kept uses_kept is root_is =
    let places = kept_places kept in
    record {
      same = ap (map product_step) is ∙ same_steps kept;
      uses = λ number none h.
          let blank : Step = record { product = 0; side = Left; uses = [] } in
          let at : step_at steps number ≡ numbered_step listed numbers (get_or kept number none)
          = ap (λ (s : List Step). step_at s number) is ∙ get_or-map (numbered_step listed numbers) kept number none blank h in
          subst (λ (s : Step). StandFor places s.uses (get_or kept number none).uses) (sym at)
          (stand_for numbers places (get_or kept number none).uses have (uses_kept number none h));
      root_uses = subst (λ (ns : List ℕ). StandFor places ns root) (sym root_is) (stand_for numbers places root have root_kept);
    } where
      same_steps : (kept : List Kept) → map product_step (map (numbered_step listed numbers) kept) ≡ map (λ place. step_of (levelled_at listed place).operand) (kept_places kept)
      same_steps [] = refl
      same_steps (step ∷ kept) = ap (λ (ss : List ProductStep). step_of (levelled_at listed step.place).operand ∷ ss) (same_steps kept)
