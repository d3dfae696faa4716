-- A closure gives an attack: each use of a step unfolds to a probe, whose operand side is on a share of its own.
use Rattle.std.proofs.Common.{◌≡◌, ◌≢◌, ◌<◌, ◌≤◌, ◌+◌, ◌⊎◌, inl, inr, ℕ, zero, suc, Bool, true, false, cond, List, [], ◌∷◌, ◌++◌, length, eqb, eq-eqb, refl, sym, subst, arith, true≢false, length-append}
use Rattle.span_model.specs.Columns.{Columns, empty}
use Rattle.span_model.specs.Span.{InSpan, Spans}
use Rattle.span_model.specs.Attack.{Product, Probe, product_at, shown, seen, IsLeak}
use Rattle.span_model.specs.Closure.{Step, Side, on_left, on_right, operand, co_operand, co_operands, IsChain, IsClosed}
use Rattle.span_model.proofs.Members.{spans_none, spans_both, in_behind, in_front}
use Rattle.span_model.proofs.Probing.{AllBelow, below_more, below-append, below_within, seen_first, seen_second}
use Rattle.span_model.proofs.Closing.{attack_closes}

-- how many probes the uses of steps unfold to
abbrev size : List Step → ℕ
size [] = 0
size (step ∷ before) = suc (size before + size before)

-- the first on the left, the second on the right
abbrev pick_side : Side → ℕ → ℕ → ℕ
pick_side on_left a b = a
pick_side on_right a b = b

-- the probe of a step with its operand side on a new share, and its co-operand side on the share that uses it
abbrev use_of : Step → (new user : ℕ) → Probe
use_of step new user = record { product = step.product; left_share = pick_side step.side new user; right_share = pick_side step.side user new }

-- the probes of the steps used under a share, where the shares from `new` on are free
abbrev unfolded : List Step → (user new : ℕ) → List Probe
unfolded [] user new = []
unfolded (step ∷ before) user new = use_of step new user ∷ (unfolded before new (suc new) ++ unfolded before user (suc new + size before))

length-unfolded : (steps : List Step) (user new : ℕ) → length (unfolded steps user new) ≡ size steps
length-unfolded [] user new = refl
length-unfolded (step ∷ before) user new =
    let a = length-unfolded before new (suc new) in
    let b = length-unfolded before user (suc new + size before) in
    omega (arith, length-append (unfolded before new (suc new)) (unfolded before user (suc new + size before)))

use_below : (n k : ℕ) (side : Side) (new user bound : ℕ) → k < n → new < bound → user < bound
    → AllBelow n bound (use_of (record { product = k; side = side }) new user ∷ [])
use_below n k on_left new user bound lt a b = ((lt, a, b), tt)
use_below n k on_right new user bound lt a b = ((lt, b, a), tt)

-- the new share of a step's use, one of the shares after it, or one of those behind these
which : (new one_size s : ℕ) → new ≤ s → s < new + suc (one_size + one_size)
    → (s ≡ new) ⊎ (((suc new ≤ s) × (s < suc new + one_size)) ⊎ ((suc new + one_size ≤ s) × (s < (suc new + one_size) + one_size)))
which new one_size s ge lt = grind arith

module _ {C : Type 0} where
  spans_shown : (rows : List (Columns C)) (b : Bool) → b ≡ true → Spans (cond b rows []) rows
  spans_shown rows true e = λ v m. m
  spans_shown rows false e = absurd (true≢false (sym e))

  -- a use shows the step's operand on the new share, and its co-operand on the share that uses it
  use_shows : (products : List (Product C)) (k : ℕ) (side : Side) (new user : ℕ) → let step : Step = record { product = k; side = side } in
      Spans (shown products (use_of step new user) new) (operand products step)
  use_shows products k on_left new user v m =
      in_behind _ _ v (spans_shown (product_at products k).left (eqb new new) (eq-eqb new new refl) v m)
  use_shows products k on_right new user v m =
      in_front (cond (eqb user new) (product_at products k).left []) _ v (spans_shown (product_at products k).right (eqb new new) (eq-eqb new new refl) v m)

  user_shows : (products : List (Product C)) (k : ℕ) (side : Side) (new user : ℕ) → let step : Step = record { product = k; side = side } in
      Spans (shown products (use_of step new user) user) (co_operand products step)
  user_shows products k on_left new user v m =
      in_front (cond (eqb new user) (product_at products k).left []) _ v (spans_shown (product_at products k).right (eqb user user) (eq-eqb user user refl) v m)
  user_shows products k on_right new user v m =
      in_behind _ _ v (spans_shown (product_at products k).left (eqb user user) (eq-eqb user user refl) v m)

  -- what the probes of used steps show
  record Shows (products : List (Product C)) (leak : Columns C) (steps : List Step) (user new : ℕ) (probes : List Probe) : Type 0 where
    below : AllBelow (length products) (new + size steps) probes
    to_user : Spans (seen products probes user) (co_operands products steps)
    on_new : (s : ℕ) → new ≤ s → s < new + size steps → InSpan (seen products probes s) leak

  -- a step's probe, with the probes of the steps before it under its new share, and again under the share that uses it
  unfolds_step : (products : List (Product C)) (leak : Columns C) (step : Step) (before : List Step) → IsChain products leak (step ∷ before)
      → (user new : ℕ) → user < new
      → Shows products leak before new (suc new) (unfolded before new (suc new))
      → Shows products leak before user (suc new + size before) (unfolded before user (suc new + size before))
      → Shows products leak (step ∷ before) user new (unfolded (step ∷ before) user new)
  unfolds_step products leak step before chain user new lt a b =
      let first = unfolded before new (suc new) in
      let second = unfolded before user (suc new + size before) in
      let used = use_of step new user in
      let later : (s : ℕ) → Spans (seen products (used ∷ (first ++ second)) s) (seen products (first ++ second) s)
      = λ s. in_front (shown products used s) (seen products (first ++ second) s) in
      record {
        below = below-append (length products) (new + size (step ∷ before)) (used ∷ []) (first ++ second)
            (use_below (length products) step.product step.side new user (new + size (step ∷ before)) chain.0 (omega arith) (omega arith))
            (below-append (length products) (new + size (step ∷ before)) first second
            (below_more (length products) (suc new + size before) (new + size (step ∷ before)) first (omega arith) a.below)
            (below_more (length products) ((suc new + size before) + size before) (new + size (step ∷ before)) second (omega arith) b.below));
        to_user = spans_both (seen products (used ∷ (first ++ second)) user) (co_operand products step) (co_operands products before)
            (λ v m. in_behind (shown products used user) (seen products (first ++ second) user) v (user_shows products step.product step.side new user v m))
            (λ v m. later user v (seen_second products first second user v (b.to_user v m)));
        on_new = λ s ge below. elim (which new (size before) s ge below) [
          | inl same ↦ subst (λ (x : ℕ). InSpan (seen products (used ∷ (first ++ second)) x) leak) (sym same)
              (spans_both (seen products (used ∷ (first ++ second)) new) (operand products step) (co_operands products before)
              (λ v m. in_behind (shown products used new) (seen products (first ++ second) new) v (use_shows products step.product step.side new user v m))
              (λ v m. later new v (seen_first products first second new v (a.to_user v m)))
              leak chain.1)
          | inr (inl x) ↦ later s leak (seen_first products first second s leak (a.on_new s x.0 x.1))
          | inr (inr x) ↦ later s leak (seen_second products first second s leak (b.on_new s x.0 x.1))
        ];
      }

  unfolds : (products : List (Product C)) (leak : Columns C) (steps : List Step) → IsChain products leak steps
      → (user new : ℕ) → user < new → Shows products leak steps user new (unfolded steps user new)
  unfolds products leak [] chain user new lt = record { below = tt; to_user = spans_none []; on_new = λ s ge below. absurd (omega arith) }
  unfolds products leak (step ∷ before) chain user new lt =
      unfolds_step products leak step before chain user new lt
      (unfolds products leak before chain.2 new (suc new) (omega arith))
      (unfolds products leak before chain.2 user (suc new + size before) (omega arith))

  on_zero : (products : List (Product C)) (leak : Columns C) (steps : List Step) → Shows products leak steps 0 1 (unfolded steps 0 1)
      → InSpan (co_operands products steps) leak → (s : ℕ) → s ≤ size steps → InSpan (seen products (unfolded steps 0 1) s) leak
  on_zero products leak steps shows closed zero le = shows.to_user leak closed
  on_zero products leak steps shows closed (suc s) le = shows.on_new (suc s) (omega arith) (omega arith)

  pub closed_attacks : (products : List (Product C)) (leak : Columns C) → leak ≢ empty → IsClosed products leak → IsLeak products leak
  closed_attacks products leak nonempty (steps, chain, closed) =
      let shows = unfolds products leak steps chain 0 1 (omega arith) in
      let bound : 1 + size steps ≡ suc (size steps) = omega arith in (
        size steps,
        unfolded steps 0 1,
        record {
          count = length-unfolded steps 0 1;
          within = below_within (length products) (size steps) (unfolded steps 0 1)
              (subst (λ (b : ℕ). AllBelow (length products) b (unfolded steps 0 1)) bound shows.below);
          nonempty = nonempty;
          spanned = on_zero products leak steps shows closed;
        },
      )

  pub leak_closed : (products : List (Product C)) (leak : Columns C) → (IsLeak products leak → (leak ≢ empty) × IsClosed products leak) × ((leak ≢ empty) × IsClosed products leak → IsLeak products leak)
  leak_closed products leak = (
    λ l. (l.2.nonempty, attack_closes products l.0 leak l.1 l.2),
    λ h. closed_attacks products leak h.0 h.1,
  )
