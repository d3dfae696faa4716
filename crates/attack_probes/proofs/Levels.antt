-- Unfoldings do not hang on the level at which they stop, nor their lengths on the shares.
use Rattle.std.proofs.Common.{◌≡◌, ◌<◌, ◌+◌, ℕ, zero, suc, List, [], ◌∷◌, ◌++◌, length, All, refl, sym, ap, ◌∙◌, subst, arith, sum_by, length-append}
use Rattle.std.proofs.lemmas.List.Sums.{sum_by-cons}
use Rattle.span_model.specs.Attack.{Probe}
use Rattle.attack_model.specs.declared.attack.Step.{Step}
use Rattle.attack_model.specs.Derivations.{step_at, AreUses}
use Rattle.attack_model.proofs.UseLemmas.{uses_below}
use Rattle.attack_probes.specs.Unfolding.{probe_on, in_turn, unfolded}

length-in_turn : (probes_of_use : ℕ → ℕ → ℕ → List Probe) (size : ℕ → ℕ) → ((k user new : ℕ) → length (probes_of_use k user new) ≡ size k)
    → (uses : List ℕ) (user new : ℕ) → length (in_turn probes_of_use uses user new) ≡ sum_by size uses
length-in_turn probes_of_use size e [] user new = refl
length-in_turn probes_of_use size e (k ∷ uses) user new =
    let later = new + length (probes_of_use k user new) in
    let rest = length-in_turn probes_of_use size e uses user later in
    let first = e k user new in
    omega (arith, length-append (probes_of_use k user new) (in_turn probes_of_use uses user later), sum_by-cons size k uses)

-- how many probes a use of step k unfolds to
abbrev pub size : (levels : ℕ) → List Step → ℕ → ℕ
size levels steps k = length (unfolded levels steps k 0 1)

pub length-unfolded : (levels : ℕ) (steps : List Step) (k user new : ℕ) → length (unfolded levels steps k user new) ≡ size levels steps k
length-unfolded zero steps k user new = refl
length-unfolded (suc levels) steps k user new =
    let uses = (step_at steps k).uses in
    let here = length-in_turn (unfolded levels steps) (size levels steps) (length-unfolded levels steps) uses new (suc new) in
    let there = length-in_turn (unfolded levels steps) (size levels steps) (length-unfolded levels steps) uses 1 2 in
    ap suc (here ∙ sym there)

pub length-unfolding : (steps : List Step) (uses : List ℕ) (user new : ℕ)
    → length (in_turn (unfolded (length steps) steps) uses user new) ≡ sum_by (size (length steps) steps) uses
length-unfolding steps uses user new = length-in_turn (unfolded (length steps) steps) (size (length steps) steps) (length-unfolded (length steps) steps) uses user new

same-in_turn : (f g : ℕ → ℕ → ℕ → List Probe) (uses : List ℕ) → All (λ k. (user new : ℕ) → f k user new ≡ g k user new) uses
    → (user new : ℕ) → in_turn f uses user new ≡ in_turn g uses user new
same-in_turn f g [] same user new = refl
same-in_turn f g (k ∷ uses) same user new =
    let first : f k user new ≡ g k user new = same 0 k (omega arith) user new in
    let rest : in_turn f uses user (new + length (f k user new)) ≡ in_turn g uses user (new + length (f k user new)) =
    same-in_turn f g uses (λ j d lt. same (suc j) d (omega arith)) user (new + length (f k user new)) in
    subst (λ (x : List Probe). f k user new ++ in_turn f uses user (new + length (f k user new)) ≡ x ++ in_turn g uses user (new + length x)) first
    (ap (λ x. f k user new ++ x) rest)

module _ (steps : List Step) (earlier : (k : ℕ) → k < length steps → AreUses k (step_at steps k).uses) where
  same_levels : (levels more k user new : ℕ) → k < levels → k < more → k < length steps
      → unfolded levels steps k user new ≡ unfolded more steps k user new
  same_levels zero more k user new a b within = absurd (omega arith)
  same_levels (suc levels) zero k user new a b within = absurd (omega arith)
  same_levels (suc levels) (suc more) k user new a b within =
      ap (λ x. probe_on (step_at steps k).side (step_at steps k).product new user ∷ x)
      (same-in_turn (unfolded levels steps) (unfolded more steps) (step_at steps k).uses
      (λ j d inside own next. let below = uses_below k (step_at steps k).uses (earlier k within) j d inside in
      same_levels levels more _ own next (omega arith) (omega arith) (omega arith)) new (suc new))

  -- a use unfolds to its probe, and then to the step's own uses
  pub unfolded_step : (k user new : ℕ) → k < length steps
      → unfolded (length steps) steps k user new
      ≡ probe_on (step_at steps k).side (step_at steps k).product new user ∷ in_turn (unfolded (length steps) steps) (step_at steps k).uses new (suc new)
  unfolded_step k user new within = same_levels (length steps) (suc (length steps)) k user new within (omega arith) within

  pub size_step : (k : ℕ) → k < length steps → size (length steps) steps k ≡ suc (sum_by (size (length steps) steps) (step_at steps k).uses)
  size_step k within = ap length (unfolded_step k 0 1 within) ∙ ap suc (length-unfolding steps (step_at steps k).uses 1 2)
