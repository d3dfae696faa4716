-- Counts that stop: the sum of counts that stop, stopped, is the sum of the counts, stopped.
use Rattle.std.proofs.Common.{◌≡◌, ◌<◌, ◌≤◌, ◌+◌, ℕ, suc, List, [], ◌∷◌, ◌++◌, length, min, All, get_or, refl, sym, ap, ◌∙◌, subst, inl, inr, arith, sum_by}
use Rattle.std.proofs.lemmas.Bool.{cases_eq}
use Rattle.std.proofs.lemmas.List.{get_or_read, get_or_push, get_or_append_left, length_push}
use Rattle.std.proofs.lemmas.List.Sums.{sum_by-cons}
use Rattle.linear_view.specs.declared.operand.Side.TheVariants.{Left}
use Rattle.attack_model.specs.declared.attack.Step.{Step}
use Rattle.attack_model.specs.Derivations.{step_at, AreUses}
use Rattle.attack_model.proofs.UseLemmas.{uses_below}
use Rattle.attack_probes.specs.Unfolding.{unfolding_of}
use Rattle.attack_probes.proofs.Levels.{size, size_step, length-unfolding}

min_sum : (many a b c d : ℕ) → a ≡ min b many → min c many ≡ min d many → min (a + c) many ≡ min (b + d) many
min_sum many a b c d e h = omega arith

pub stopped_sum : (many : ℕ) (f g : ℕ → ℕ) (ks : List ℕ) → All (λ k. f k ≡ min (g k) many) ks → min (sum_by f ks) many ≡ min (sum_by g ks) many
stopped_sum many f g [] each = refl
stopped_sum many f g (k ∷ ks) each =
    rw (sum_by-cons f k ks, sum_by-cons g k ks)
    (min_sum many (f k) (g k) (sum_by f ks) (sum_by g ks) (each 0 k (omega arith)) (stopped_sum many f g ks (λ j d lt. each (suc j) d (omega arith))))

-- for the first so many steps there is the count of one use
pub record AreFirstCounts (many : ℕ) (steps : List Step) (counts : List ℕ) (n : ℕ) : Type 0 where
  pub each : length counts ≡ n
  pub counted : (k : ℕ) → k < n → get_or counts k 0 ≡ min (size (length steps) steps k) many

pub counts_below : (many : ℕ) (steps : List Step) (counts : List ℕ) (n : ℕ) → AreFirstCounts many steps counts n
    → (uses : List ℕ) → All (λ k. k < n) uses
    → min (sum_by (λ k. get_or counts k 0) uses) many ≡ min (sum_by (size (length steps) steps) uses) many
counts_below many steps counts n first uses below =
    stopped_sum many (λ k. get_or counts k 0) (size (length steps) steps) uses (λ j d lt. first.counted _ (below j d lt))

pub step_uses_below : (steps : List Step) (index : ℕ) (step : Step) → ((k : ℕ) → k < length steps → AreUses k (step_at steps k).uses)
    → index < length steps → step ≡ get_or steps index step → All (λ k. k < index) step.uses
step_uses_below steps index step earlier within is =
    let at : step ≡ step_at steps index = get_or_read steps index step within is (record { product = 0; side = Left; uses = [] }) in
    subst (λ (x : Step). All (λ k. k < index) x.uses) (sym at) (uses_below index (step_at steps index).uses (earlier index within))

-- the count of one more step
pub counts_more : (many : ℕ) (steps : List Step) (counts : List ℕ) (index : ℕ) (step : Step) (below count : ℕ)
    → ((k : ℕ) → k < length steps → AreUses k (step_at steps k).uses) → index < length steps → step ≡ get_or steps index step
    → AreFirstCounts many steps counts index
    → below ≡ min (sum_by (λ k. get_or counts k 0) step.uses) many → count ≡ min (below + 1) many
    → AreFirstCounts many steps (counts ++ count ∷ []) (index + 1)
counts_more many steps counts index step below count earlier within is first of_uses of_step =
    let at : step ≡ step_at steps index = get_or_read steps index step within is (record { product = 0; side = Left; uses = [] }) in
    let sum = counts_below many steps counts index first step.uses (step_uses_below steps index step earlier within is) in
    let whole : size (length steps) steps index ≡ suc (sum_by (size (length steps) steps) step.uses) =
    subst (λ (x : Step). size (length steps) steps index ≡ suc (sum_by (size (length steps) steps) x.uses)) (sym at) (size_step steps earlier index within) in
    let last : count ≡ min (size (length steps) steps index) many = omega arith in
    record {
      each = omega (arith, length_push counts count, first.each);
      counted = λ k lt. elim (cases_eq k index) [
        | inl same ↦ subst (λ (x : ℕ). get_or (counts ++ count ∷ []) x 0 ≡ min (size (length steps) steps x) many) (sym same)
            (get_or_push counts count 0 index first.each ∙ last)
        | inr other ↦ get_or_append_left counts (count ∷ []) 0 k (omega (arith, first.each)) ∙ first.counted k (omega arith)
      ];
    }

pub counts_all : (many : ℕ) (steps : List Step) (counts : List ℕ) (n : ℕ) → length steps ≤ n → n ≤ length steps
    → AreFirstCounts many steps counts n
    → (length counts ≡ length steps) × ((k : ℕ) → k < length steps → get_or counts k 0 ≡ min (size (length steps) steps k) many)
counts_all many steps counts n more less first = (omega (arith, first.each), λ k lt. first.counted k (omega arith))

-- the count of the whole unfolding
pub count_whole : (many : ℕ) (steps : List Step) (root counts : List ℕ) (count : ℕ)
    → length counts ≡ length steps → ((k : ℕ) → k < length steps → get_or counts k 0 ≡ min (size (length steps) steps k) many)
    → All (λ k. k < length steps) root → count ≡ min (sum_by (λ k. get_or counts k 0) root) many
    → count ≡ min (length (unfolding_of steps root)) many
count_whole many steps root counts count each counted below of_root =
    of_root ∙ counts_below many steps counts (length steps) (record { each = each; counted = counted }) root below
    ∙ ap (λ x. min x many) (sym (length-unfolding steps root 0 1))
