-- What holds while the steps are met that the root reaches, from the last listed to the first.
use Rattle.std.proofs.Common.{◌≡◌, ◌<◌, ◌≤◌, ◌⊎◌, inl, inr, ℕ, zero, suc, false, Bool, List, [], ◌∷◌, ◌++◌, length, map, get_or, take, replicate, reverse, refl, sym, ◌∙◌, subst, arith, All, true≢false}
use Rattle.std.specs.List.{Contains}
use Rattle.std.proofs.lemmas.List.{length-map, length-take, reverse-append}
use Rattle.std.proofs.lemmas.List.Elements.{All-nil, All-cons}
use Rattle.span_model.specs.Columns.{Columns}
use Rattle.span_model.specs.Attack.{Product}
use Rattle.span_model.specs.Closure.{operand, co_operand}
use Rattle.span_select.specs.Selection.{AreLeastNumbers}
use Rattle.linear_view.specs.Sides.{step_of}
use Rattle.attack_cert.specs.Levelled.{levelled_steps}
use Rattle.attack_cert.specs.Kept.{levelled_at, AreSupported, kept_places, IsPlaceReached, by_root, by_step, HasUses, AreReached}
use Rattle.attack_cert.specs.declared.levels.Levelled.{Levelled}
use Rattle.attack_cert.specs.declared.reached.Kept.{Kept}
use Rattle.attack_cert.proofs.Those.{head_in, in_tail}
use Rattle.attack_cert.proofs.Picks.{IsRising, same_or_not, rising_head, rising_increases}
use Rattle.attack_cert.proofs.Marks.{IsMarked, marked_within}
use Rattle.attack_cert.proofs.Selecting.{least_within}

pub none_marked : (n place : ℕ) → ¬ IsMarked (replicate n false) place
none_marked n place h = true≢false (sym h ∙ at_end n place) where
  at_end : (n place : ℕ) → get_or (replicate n false) place false ≡ false
  at_end zero place = refl
  at_end (suc n) zero = refl
  at_end (suc n) (suc place) = at_end n place

reached_more : (root : List ℕ) (step : Kept) (kept : List Kept) {place : ℕ} → IsPlaceReached root kept place → IsPlaceReached root (step ∷ kept) place
reached_more root step kept (by_root m) = by_root m
reached_more root step kept (by_step user there r m) = by_step user (in_tail user step kept there) (reached_more root step kept r) m

module _ {C : Type 0} (products : List (Product C)) (leak : Columns C) (listed : List Levelled) (root : List ℕ) where
  -- the steps from this place on that the root reaches are kept, and the places that are reached from them are marked
  pub record Reaching (place : ℕ) (needed : List Bool) (kept : List Kept) : Type 0 where
    pub rise : IsRising (kept_places kept)
    pub from : All (λ p. (place ≤ p) × (p < length listed)) (kept_places kept)
    pub uses : All (λ step. HasUses products leak listed step.place step.uses) kept
    pub root_marked : All (IsMarked needed) root
    pub uses_marked : All (λ step. All (IsMarked needed) step.uses) kept
    pub kept_marked : (p : ℕ) → place ≤ p → IsMarked needed p → Contains (kept_places kept) p
    pub marked_reached : (p : ℕ) → IsMarked needed p → IsPlaceReached root kept p
    pub kept_reached : All (IsPlaceReached root kept) (kept_places kept)

  pub reaching_begins : (needed old : List Bool) (n : ℕ) → length needed ≡ n → ((p : ℕ) → ¬ IsMarked old p) → All (IsMarked needed) root
      → ((p : ℕ) → IsMarked needed p → IsMarked old p ⊎ Contains root p) → Reaching n needed []
  reaching_begins needed old n count none marked others = record {
    rise = λ i j lt h. absurd (omega arith);
    from = All-nil (λ p. (n ≤ p) × (p < length listed));
    uses = All-nil (λ step. HasUses products leak listed step.place step.uses);
    root_marked = marked;
    uses_marked = All-nil (λ step. All (IsMarked needed) step.uses);
    kept_marked = λ p le m. let within = marked_within needed p m in absurd (omega arith);
    marked_reached = λ p m. elim (others p m) [ inl o ↦ absurd (none p o) | inr r ↦ by_root r ];
    kept_reached = All-nil (IsPlaceReached root []);
  }

  -- a place that is not marked
  pub reaching_skips : (place : ℕ) (needed : List Bool) (kept : List Kept) → Reaching (suc place) needed kept → ¬ IsMarked needed place → Reaching place needed kept
  reaching_skips place needed kept r not = record {
    rise = r.rise;
    from = λ k d h. let f = r.from k d h in (omega (arith, f.0), f.1);
    uses = r.uses;
    root_marked = r.root_marked;
    uses_marked = r.uses_marked;
    kept_marked = λ p le m. elim (same_or_not p place) [
      | inl e ↦ absurd (not (subst (λ (q : ℕ). IsMarked needed q) e m))
      | inr ne ↦ r.kept_marked p (omega arith) m
    ];
    marked_reached = r.marked_reached;
    kept_reached = r.kept_reached;
  }

  -- a place that is marked: its uses are marked too
  pub reaching_keeps : (place : ℕ) (needed new : List Bool) (kept : List Kept) (uses : List ℕ) → Reaching (suc place) needed kept
      → place < length listed → IsMarked needed place → HasUses products leak listed place uses → All (λ u. u < place) uses
      → All (IsMarked new) uses → ((p : ℕ) → IsMarked new p → IsMarked needed p ⊎ Contains uses p) → ((p : ℕ) → IsMarked needed p → IsMarked new p)
      → Reaching place new (record { place = place; uses = uses } ∷ kept)
  reaching_keeps place needed new kept uses r within marked has lower all others still =
      let step : Kept = record { place = place; uses = uses } in
      let here : IsPlaceReached root kept place = r.marked_reached place marked in
      record {
        rise = rising_head place (kept_places kept) (λ k d h. let f = (r.from k d h).0 in omega (arith, f)) r.rise;
        from = All-cons (λ p. (place ≤ p) × (p < length listed)) place (kept_places kept) (omega arith, within)
            (λ k d h. let f = r.from k d h in (omega (arith, f.0), f.1));
        uses = All-cons (λ s. HasUses products leak listed s.place s.uses) step kept has r.uses;
        root_marked = λ k d h. still (get_or root k d) (r.root_marked k d h);
        uses_marked = All-cons (λ s. All (IsMarked new) s.uses) step kept all
            (λ k d h j e l. still (get_or (get_or kept k d).uses j e) (r.uses_marked k d h j e l));
        kept_marked = λ p le m. elim (same_or_not place p) [
          | inl e ↦ (0, omega arith, e)
          | inr ne ↦ elim (others p m) [
            | inl old ↦ in_tail p place (kept_places kept) (r.kept_marked p (omega arith) old)
            | inr u ↦ absurd (not_lower p le u)
          ]
        ];
        marked_reached = λ p m. elim (others p m) [
          | inl old ↦ reached_more root step kept (r.marked_reached p old)
          | inr u ↦ by_step step (head_in step kept) (reached_more root step kept here) u
        ];
        kept_reached = All-cons (IsPlaceReached root (step ∷ kept)) place (kept_places kept) (reached_more root step kept here)
            (λ k d h. reached_more root step kept (r.kept_reached k d h));
      } where
        not_lower : (p : ℕ) → place ≤ p → Contains uses p → ⊥
        not_lower p le (k, lt, e) = let l = lower k p lt in absurd (omega arith)

  pub reaching_ends : (needed : List Bool) (kept : List Kept) → Reaching 0 needed kept → AreLeastNumbers [] (map (co_operand products) (levelled_steps listed)) leak root
      → AreReached products leak listed root kept
  reaching_ends needed kept r least = record {
    rise = rising_increases (kept_places kept) r.rise;
    below = λ k d h. (r.from k d h).1;
    root_uses = least;
    uses = r.uses;
    root_kept = λ k d h. r.kept_marked (get_or root k d) (omega arith) (r.root_marked k d h);
    uses_kept = λ k d h j e l. r.kept_marked (get_or (get_or kept k d).uses j e) (omega arith) (r.uses_marked k d h j e l);
    reached = r.kept_reached;
  }

  -- the uses of a step are below its place, and those of the root are listed
  pub uses_below : AreSupported products leak listed → (place : ℕ) (uses : List ℕ) → place < length listed → HasUses products leak listed place uses → All (λ u. u < place) uses
  uses_below s place uses h has =
      let lower = (levelled_at listed place).lower in
      let bound = s.lower place h in
      let count = length-map (take lower (levelled_steps listed)) (co_operand products) in
      let many = length-take lower (levelled_steps listed) in
      least_within (operand products (step_of (levelled_at listed place).operand)) (map (co_operand products) (take lower (levelled_steps listed))) leak uses place has (omega arith)

  pub root_below : AreLeastNumbers [] (map (co_operand products) (levelled_steps listed)) leak root → All (λ u. u < length listed) root
  root_below least =
      let count = length-map (levelled_steps listed) (co_operand products) in
      let many = length-map listed (λ (s : Levelled). step_of s.operand) in
      least_within [] (map (co_operand products) (levelled_steps listed)) leak root (length listed) least (omega arith)

pub kept_front : (kept : List Kept) (step : Kept) → reverse (kept ++ step ∷ []) ≡ step ∷ reverse kept
kept_front kept step = reverse-append kept (step ∷ [])
