-- The unfolding of a sound derivation is an attack: each use shows the leak on the share that it makes, and the step's co-operand on the share
-- that uses it.
use Rattle.std.proofs.Common.{◌≡◌, ◌<◌, ◌≤◌, ◌+◌, ◌⊎◌, inl, inr, ℕ, zero, suc, Bool, true, false, cond, List, [], ◌∷◌, ◌++◌, length, All, eqb, eq-eqb, refl, sym, subst, arith, true≢false, length-append}
use native.Mathlib.Nat.{le_of_suc-le-suc}
use Rattle.span_model.specs.Columns.{Columns}
use Rattle.span_model.specs.Span.{InSpan, Spans}
use Rattle.span_model.specs.Attack.{Product, Probe, IsProbe, product_at, shown, seen, IsAttack}
use Rattle.span_model.specs.Closure.{operand as step_operand, co_operand as step_co_operand, co_operands}
use Rattle.span_model.proofs.Members.{spans_none, spans_both, in_behind, in_front}
use Rattle.linear_view.specs.declared.operand.Side.{Side}
use Rattle.linear_view.specs.declared.operand.Side.TheVariants.{Left, Right}
use Rattle.attack_model.specs.declared.attack.Step.{Step}
use Rattle.attack_model.proofs.UseLemmas.{uses_below}
use Rattle.attack_probes.specs.Derivations.{product_step, used_steps, IsSound}
use Rattle.linear_view.specs.Sides.{side_of}
use Rattle.attack_model.specs.Derivations.{step_at, IsInOrder}
use Rattle.attack_probes.specs.Unfolding.{probe_on, in_turn, unfolded, unfolding_of}

-- each probe is of one of so many products, on shares below a bound
abbrev AllBelow : ℕ → ℕ → List Probe → Type 0
AllBelow n bound [] = Unit {0}
AllBelow n bound (probe ∷ probes) =
    ((probe.product < n) × (probe.left_share < bound) × (probe.right_share < bound)) × AllBelow n bound probes

below_more : (n bound more : ℕ) (probes : List Probe) → bound ≤ more → AllBelow n bound probes → AllBelow n more probes
below_more n bound more [] le h = tt
below_more n bound more (probe ∷ probes) le h = ((h.0.0, omega (arith, h.0.1), omega (arith, h.0.2)), below_more n bound more probes le h.1)

below-append : (n bound : ℕ) (a b : List Probe) → AllBelow n bound a → AllBelow n bound b → AllBelow n bound (a ++ b)
below-append n bound [] b h k = k
below-append n bound (probe ∷ a) b h k = (h.0, below-append n bound a b h.1 k)

below_within : (n t : ℕ) (probes : List Probe) → AllBelow n (suc t) probes → All (IsProbe n t) probes
below_within n t [] h k d lt = absurd (omega arith)
below_within n t (probe ∷ probes) h zero d lt = record { product = h.0.0; left_share = omega (arith, h.0.1); right_share = omega (arith, h.0.2) }
below_within n t (probe ∷ probes) h (suc k) d lt = below_within n t probes h.1 k d (le_of_suc-le-suc lt)

probe_below : (n product own user bound : ℕ) (side : Side) → product < n → own < bound → user < bound
    → AllBelow n bound (probe_on side product own user ∷ [])
probe_below n product own user bound Left lt a b = ((lt, a, b), tt)
probe_below n product own user bound Right lt a b = ((lt, b, a), tt)

-- a share that is new to one list of probes after another is new to the first or to the second
which : (new first second s : ℕ) → new ≤ s → s < new + (first + second)
    → ((new ≤ s) × (s < new + first)) ⊎ ((new + first ≤ s) × (s < (new + first) + second))
which new first second s ge lt = grind arith

which_own : (new rest s : ℕ) → new ≤ s → s < new + suc rest → (s ≡ new) ⊎ ((suc new ≤ s) × (s < suc new + rest))
which_own new rest s ge lt = grind arith

module _ {C : Type 0} where
  spans_shown : (rows : List (Columns C)) (b : Bool) → b ≡ true → Spans (cond b rows []) rows
  spans_shown rows true e = λ v m. m
  spans_shown rows false e = absurd (true≢false (sym e))

  -- a use shows the step's operand on its own share, and its co-operand on the share that uses it
  own_shows : (products : List (Product C)) (step : Step) (side : Side) (own user : ℕ) → step.side ≡ side
      → Spans (shown products (probe_on side step.product own user) own) (step_operand products (record { product = step.product; side = side_of side }))
  own_shows products step Left own user e v m =
      in_behind _ _ v (spans_shown (product_at products step.product).left (eqb own own) (eq-eqb own own refl) v m)
  own_shows products step Right own user e v m =
      in_front (cond (eqb user own) (product_at products step.product).left []) _ v (spans_shown (product_at products step.product).right (eqb own own) (eq-eqb own own refl) v m)

  user_shows : (products : List (Product C)) (product : ℕ) (side : Side) (own user : ℕ)
      → Spans (shown products (probe_on side product own user) user) (step_co_operand products (record { product = product; side = side_of side }))
  user_shows products product Left own user v m =
      in_front (cond (eqb own user) (product_at products product).left []) _ v (spans_shown (product_at products product).right (eqb user user) (eq-eqb user user refl) v m)
  user_shows products product Right own user v m =
      in_behind _ _ v (spans_shown (product_at products product).left (eqb user user) (eq-eqb user user refl) v m)

  seen_first : (products : List (Product C)) (a b : List Probe) (s : ℕ) → Spans (seen products (a ++ b) s) (seen products a s)
  seen_first products [] b s = spans_none (seen products b s)
  seen_first products (probe ∷ a) b s = spans_both (seen products (probe ∷ (a ++ b)) s) (shown products probe s) (seen products a s)
      (in_behind (shown products probe s) (seen products (a ++ b) s))
      (λ v m. in_front (shown products probe s) (seen products (a ++ b) s) v (seen_first products a b s v m))

  seen_second : (products : List (Product C)) (a b : List Probe) (s : ℕ) → Spans (seen products (a ++ b) s) (seen products b s)
  seen_second products [] b s v m = m
  seen_second products (probe ∷ a) b s v m = in_front (shown products probe s) (seen products (a ++ b) s) v (seen_second products a b s v m)

  -- what probes under a share show, where the shares from `new` on are theirs: the rows on the share that uses them, and the leak on their own
  record Shows (products : List (Product C)) (leak : Columns C) (user new : ℕ) (probes : List Probe) (rows : List (Columns C)) : Type 0 where
    below : AllBelow (length products) (new + length probes) probes
    to_user : Spans (seen products probes user) rows
    on_new : (s : ℕ) → new ≤ s → s < new + length probes → InSpan (seen products probes s) leak

  shows_none : (products : List (Product C)) (leak : Columns C) (user new : ℕ) → Shows products leak user new [] []
  shows_none products leak user new = record { below = tt; to_user = spans_none []; on_new = λ s ge below. absurd (omega arith) }

  shows_then : (products : List (Product C)) (leak : Columns C) (user new : ℕ) (a b : List Probe) (rows more : List (Columns C))
      → Shows products leak user new a rows → Shows products leak user (new + length a) b more
      → Shows products leak user new (a ++ b) (rows ++ more)
  shows_then products leak user new a b rows more x y =
      let long : length (a ++ b) ≡ length a + length b = length-append a b in
      record {
        below = below-append (length products) (new + length (a ++ b)) a b
            (below_more (length products) (new + length a) (new + length (a ++ b)) a (omega arith) x.below)
            (below_more (length products) ((new + length a) + length b) (new + length (a ++ b)) b (omega arith) y.below);
        to_user = spans_both (seen products (a ++ b) user) rows more
            (λ v m. seen_first products a b user v (x.to_user v m))
            (λ v m. seen_second products a b user v (y.to_user v m));
        on_new = λ s ge below. elim (which new (length a) (length b) s ge (omega arith)) [
          | inl h ↦ seen_first products a b s leak (x.on_new s h.0 h.1)
          | inr h ↦ seen_second products a b s leak (y.on_new s h.0 h.1)
        ];
      }

  shows_use : (products : List (Product C)) (leak : Columns C) (step : Step) (rows : List (Columns C)) (user new : ℕ) (probes : List Probe)
      → step.product < length products → InSpan (step_operand products (product_step step) ++ rows) leak → user < new
      → Shows products leak new (suc new) probes rows
      → Shows products leak user new (probe_on step.side step.product new user ∷ probes) (step_co_operand products (product_step step))
  shows_use products leak step rows user new probes lt derived before x =
      let first = probe_on step.side step.product new user in
      record {
        below = below-append (length products) (new + suc (length probes)) (first ∷ []) probes
            (probe_below (length products) step.product new user (new + suc (length probes)) step.side lt (omega arith) (omega arith))
            (below_more (length products) (suc new + length probes) (new + suc (length probes)) probes (omega arith) x.below);
        to_user = λ v m. in_behind (shown products first user) (seen products probes user) v (user_shows products step.product step.side new user v m);
        on_new = λ s ge below. elim (which_own new (length probes) s ge below) [
          | inl same ↦ subst (λ (y : ℕ). InSpan (seen products (first ∷ probes) y) leak) (sym same)
              (spans_both (seen products (first ∷ probes) new) (step_operand products (product_step step)) rows
              (λ v m. in_behind (shown products first new) (seen products probes new) v (own_shows products step step.side new user refl v m))
              (λ v m. in_front (shown products first new) (seen products probes new) v (x.to_user v m))
              leak derived)
          | inr h ↦ in_front (shown products first s) (seen products probes s) leak (x.on_new s h.0 h.1)
        ];
      }

  -- one use after the other
  shows_in_turn : (products : List (Product C)) (leak : Columns C) (steps : List Step) (probes_of_use : ℕ → ℕ → ℕ → List Probe) (uses : List ℕ) (user new : ℕ)
      → user < new
      → All (λ k. (user new : ℕ) → user < new → Shows products leak user new (probes_of_use k user new) (step_co_operand products (product_step (step_at steps k)))) uses
      → Shows products leak user new (in_turn probes_of_use uses user new) (co_operands products (used_steps steps uses))
  shows_in_turn products leak steps probes_of_use [] user new before each = shows_none products leak user new
  shows_in_turn products leak steps probes_of_use (k ∷ uses) user new before each =
      shows_then products leak user new (probes_of_use k user new) (in_turn probes_of_use uses user (new + length (probes_of_use k user new)))
      (step_co_operand products (product_step (step_at steps k))) (co_operands products (used_steps steps uses))
      (each 0 k (omega arith) user new before)
      (shows_in_turn products leak steps probes_of_use uses user (new + length (probes_of_use k user new)) (omega arith)
      (λ j d lt. each (suc j) d (omega arith)))

  module _ (products : List (Product C)) (leak : Columns C) (steps : List Step) (root : List ℕ)
      (among : All (λ step. step.product < length products) steps) (order : IsInOrder steps root) (sound : IsSound products leak steps root) where
    shows_unfolded : (levels k user new : ℕ) → k < levels → k < length steps → user < new
        → Shows products leak user new (unfolded levels steps k user new) (step_co_operand products (product_step (step_at steps k)))
    shows_unfolded zero k user new lt within before = absurd (omega arith)
    shows_unfolded (suc levels) k user new lt within before =
        let step = step_at steps k in
        shows_use products leak step (co_operands products (used_steps steps step.uses)) user new (in_turn (unfolded levels steps) step.uses new (suc new))
        (among k (record { product = 0; side = Left; uses = [] }) within)
        (sound.derived k (record { product = 0; side = Left; uses = [] }) within)
        before
        (shows_in_turn products leak steps (unfolded levels steps) step.uses new (suc new) (omega arith)
        (λ j d inside own next before. let below = uses_below k (step_at steps k).uses (order.earlier k within) j d inside in
        shows_unfolded levels _ own next (omega arith) (omega arith) before))

    shows_root : Shows products leak 0 1 (unfolding_of steps root) (co_operands products (used_steps steps root))
    shows_root = shows_in_turn products leak steps (unfolded (length steps) steps) root 0 1 (omega arith)
        (λ j d inside own next before. let below = uses_below (length steps) root order.within j d inside in
        shows_unfolded (length steps) _ own next below below before)

    on_each : (s : ℕ) → s ≤ length (unfolding_of steps root) → InSpan (seen products (unfolding_of steps root) s) leak
    on_each zero le = shows_root.to_user leak sound.shown
    on_each (suc s) le = shows_root.on_new (suc s) (omega arith) (omega arith)

    pub unfolding_attacks : IsAttack products (length (unfolding_of steps root)) leak (unfolding_of steps root)
    unfolding_attacks = record {
      count = refl;
      within = below_within (length products) (length (unfolding_of steps root)) (unfolding_of steps root)
          (below_more (length products) (1 + length (unfolding_of steps root)) (suc (length (unfolding_of steps root))) (unfolding_of steps root) (omega arith) shows_root.below);
      nonempty = sound.nonempty;
      spanned = on_each;
    }
