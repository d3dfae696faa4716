-- The listed steps have, with those of lower levels, what spans the leak.
use Rattle.std.proofs.Common.{◌≡◌, ◌<◌, ◌≤◌, ◌+◌, ◌-◌, inl, inr, ℕ, true, false, List, [], ◌∷◌, ◌++◌, length, get_or, take, replicate, refl, sym, ap, ◌∙◌, subst, arith, leb}
use Rattle.std.specs.List.{Contains}
use Rattle.std.proofs.lemmas.Bool.{cond-true, cond-false}
use Rattle.std.proofs.lemmas.Bool.Decides.{leb_tells}
use Rattle.std.proofs.lemmas.List.{length-append, length-replicate, get_or_append_left, get_or-append_right, get_or-replicate, get_or-map, get_or_default, take_at, take-append-le}
use Rattle.std.proofs.lemmas.List.Elements.{Contains-get_or}
use Rattle.span_model.specs.Columns.{Columns}
use Rattle.span_model.specs.Span.{InSpan}
use Rattle.span_model.specs.Attack.{Product}
use Rattle.span_model.specs.Closure.{Step, on_left, operand, co_operands}
use Rattle.linear_view.specs.declared.operand.Side.TheVariants.{Left}
use Rattle.linear_view.specs.Sides.{step_of}
use Rattle.attack_cert.specs.Levels.{listed, HasNextLevel, AreLevels}
use Rattle.attack_cert.specs.Derivation.{listed_at, lower_steps}
use Rattle.attack_cert.specs.Levelled.{levelled_steps, lower_counts, AreListed, ReachLeak}
use Rattle.attack_cert.specs.Kept.{levelled_at, AreSupported}
use Rattle.attack_cert.specs.declared.levels.Levelled.{Levelled}
use Rattle.attack_cert.proofs.Those.{those_hold, those_within, steps_below}
use Rattle.attack_cert.proofs.Levelling.{length_listed}

pub length_counts : (levels : List (List Step)) → length (lower_counts levels) ≡ length (listed levels)
length_counts [] = refl
length_counts (level ∷ lower) =
    length-append (lower_counts lower) (replicate (length level) (length (listed lower)))
    ∙ ap (λ (k : ℕ). k + length (replicate (length level) (length (listed lower)))) (length_counts lower)
    ∙ ap (λ (k : ℕ). length (listed lower) + k) (length-replicate (length level) (length (listed lower)))
    ∙ sym (length-append (listed lower) level)

-- the count at a place of the last level, and at one before it
count_here : (level : List Step) (lower : List (List Step)) (place : ℕ) → length (listed lower) ≤ place → place < length (listed (level ∷ lower))
    → get_or (lower_counts (level ∷ lower)) place 0 ≡ length (listed lower)
count_here level lower place ge h =
    let within : place - length (listed lower) < length level = omega (arith, length-append (listed lower) level) in
    get_or-append_right (lower_counts lower) (replicate (length level) (length (listed lower))) (length (listed lower)) place 0 (length_counts lower) ge
    ∙ get_or-replicate (length level) (place - length (listed lower)) (length (listed lower)) 0 within

count_before : (level : List Step) (lower : List (List Step)) (place : ℕ) → place < length (listed lower)
    → get_or (lower_counts (level ∷ lower)) place 0 ≡ get_or (lower_counts lower) place 0
count_before level lower place lt =
    let within : place < length (lower_counts lower) = let e = length_counts lower in omega arith in
    get_or_append_left (lower_counts lower) (replicate (length level) (length (listed lower))) 0 place within

-- there are at most as many steps of lower levels as steps before
pub count_bound : (levels : List (List Step)) (place : ℕ) → place < length (listed levels) → get_or (lower_counts levels) place 0 ≤ place
count_bound [] place h = absurd (omega arith)
count_bound (level ∷ lower) place h = elim (leb_tells (length (listed lower)) place) [
  | inl x ↦ (let e = count_here level lower place x.1 h in let ge = x.1 in omega arith)
  | inr x ↦ (let e = count_before level lower place x.1 in let b = count_bound lower place x.1 in omega arith)
]

lower_here : (level : List Step) (lower : List (List Step)) (place : ℕ) → leb (length (listed lower)) place ≡ true → lower_steps (level ∷ lower) place ≡ listed lower
lower_here level lower place e = cond-true (leb (length (listed lower)) place) (listed lower) (lower_steps lower place) e

lower_before : (level : List Step) (lower : List (List Step)) (place : ℕ) → leb (length (listed lower)) place ≡ false → lower_steps (level ∷ lower) place ≡ lower_steps lower place
lower_before level lower place e = cond-false (leb (length (listed lower)) place) (listed lower) (lower_steps lower place) e

-- the steps of lower levels are listed first
pub lower_first : (levels : List (List Step)) (place : ℕ) → place < length (listed levels)
    → lower_steps levels place ≡ take (get_or (lower_counts levels) place 0) (listed levels)
lower_first [] place h = absurd (omega arith)
lower_first (level ∷ lower) place h = elim (leb_tells (length (listed lower)) place) [
  | inl x ↦ lower_here level lower place x.0
      ∙ sym (take_at (listed lower) level (length (listed lower)) refl)
      ∙ ap (λ (n : ℕ). take n (listed lower ++ level)) (sym (count_here level lower place x.1 h))
  | inr x ↦ (
      let lt = x.1 in
      let bound = count_bound lower place x.1 in
      let fits : get_or (lower_counts lower) place 0 ≤ length (listed lower) = omega arith in
      lower_before level lower place x.0
      ∙ lower_first lower place x.1
      ∙ sym (take-append-le (get_or (lower_counts lower) place 0) (listed lower) level fits)
      ∙ ap (λ (n : ℕ). take n (listed lower ++ level)) (sym (count_before level lower place x.1))
      )
]

-- what the levels say of a listed step
pub at_listed : (levels : List (List Step)) (steps : List Levelled) → AreListed levels steps → (place : ℕ) → place < length steps
    → step_of (levelled_at steps place).operand ≡ listed_at (listed levels) place
at_listed levels steps l place h =
    sym (get_or-map (λ (s : Levelled). step_of s.operand) steps place (record { operand = record { product = 0; side = Left }; lower = 0 }) (record { product = 0; side = on_left }) h)
    ∙ ap (λ (xs : List Step). listed_at xs place) l.same

count_listed : (levels : List (List Step)) (steps : List Levelled) → AreListed levels steps → (place : ℕ) → place < length steps
    → (levelled_at steps place).lower ≡ get_or (lower_counts levels) place 0
count_listed levels steps l place h =
    sym (get_or-map (λ (s : Levelled). s.lower) steps place (record { operand = record { product = 0; side = Left }; lower = 0 }) 0 h)
    ∙ ap (λ (xs : List ℕ). get_or xs place 0) l.lower

pub lower_listed : (levels : List (List Step)) (steps : List Levelled) → AreListed levels steps → (place : ℕ) → place < length steps
    → take (levelled_at steps place).lower (levelled_steps steps) ≡ lower_steps levels place
lower_listed levels steps l place h =
    let within : place < length (listed levels) = let e = length_listed levels steps l in omega arith in
    ap (λ (n : ℕ). take n (levelled_steps steps)) (count_listed levels steps l place h)
    ∙ ap (take (get_or (lower_counts levels) place 0)) l.same
    ∙ sym (lower_first levels place within)

module _ {C : Type 0} (products : List (Product C)) (leak : Columns C) where
  -- the step is one of the products, and spans the leak with the co-operands of the lower steps
  pub record Spans (step : Step) (below : List Step) : Type 0 where
    pub within : step.product < length products
    pub spanned : InSpan (operand products step ++ co_operands products below) leak

  pub level_spans : (levels : List (List Step)) → AreLevels products leak levels → (place : ℕ) → place < length (listed levels)
      → Spans (listed_at (listed levels) place) (lower_steps levels place)
  level_spans [] h place lt = absurd (omega arith)
  level_spans (level ∷ lower) h place lt = elim (leb_tells (length (listed lower)) place) [
    | inl x ↦ (
        let ge = x.1 in
        let within : place - length (listed lower) < length level = omega (arith, length-append (listed lower) level) in
        let none : Step = record { product = 0; side = on_left } in
        let there : Contains level (get_or level (place - length (listed lower)) none) = Contains-get_or level (place - length (listed lower)) none within in
        let has = those_hold (HasNextLevel products leak lower) h.0 (get_or level (place - length (listed lower)) none) there in
        let is : get_or (listed lower ++ level) place none ≡ get_or level (place - length (listed lower)) none
        = get_or-append_right (listed lower) level (length (listed lower)) place none refl ge in
        subst (λ (s : Step). Spans s (lower_steps (level ∷ lower) place)) (sym is)
        (subst (λ (b : List Step). Spans (get_or level (place - length (listed lower)) none) b) (sym (lower_here level lower place x.0)) (record {
          within = steps_below (length products) (get_or level (place - length (listed lower)) none)
              (those_within (HasNextLevel products leak lower) h.0 (get_or level (place - length (listed lower)) none) there);
          spanned = has.spanned;
        }))
        )
    | inr x ↦ (
        let none : Step = record { product = 0; side = on_left } in
        let is : get_or (listed lower ++ level) place none ≡ get_or (listed lower) place none = get_or_append_left (listed lower) level none place x.1 in
        subst (λ (s : Step). Spans s (lower_steps (level ∷ lower) place)) (sym is)
        (subst (λ (b : List Step). Spans (get_or (listed lower) place none) b) (sym (lower_before level lower place x.0)) (level_spans lower h.1 place x.1))
        )
  ]

  pub listed_spans : (levels : List (List Step)) (steps : List Levelled) → AreLevels products leak levels → AreListed levels steps → (place : ℕ) → place < length steps
      → Spans (step_of (levelled_at steps place).operand) (take (levelled_at steps place).lower (levelled_steps steps))
  listed_spans levels steps h l place lt =
      let within : place < length (listed levels) = let e = length_listed levels steps l in omega arith in
      subst (λ (s : Step). Spans s (take (levelled_at steps place).lower (levelled_steps steps))) (sym (at_listed levels steps l place lt))
      (subst (λ (b : List Step). Spans (listed_at (listed levels) place) b) (sym (lower_listed levels steps l place lt)) (level_spans levels h place within))

  pub supported : (steps : List Levelled) → ReachLeak products leak steps → AreSupported products leak steps
  supported steps r =
      let levels : List (List Step) = r.last ∷ r.lower in
      let none : Levelled = record { operand = record { product = 0; side = Left }; lower = 0 } in
      record {
        within = λ k d lt.
            subst (λ (s : Levelled). s.operand.product < length products) (get_or_default steps k none d lt) (listed_spans levels steps r.levels r.are_listed k lt).within;
        lower = λ place lt.
            let within : place < length (listed levels) = let e = length_listed levels steps r.are_listed in omega arith in
            let e = count_listed levels steps r.are_listed place lt in
            let b = count_bound levels place within in
            omega arith;
        spanned = λ place lt. (listed_spans levels steps r.levels r.are_listed place lt).spanned;
        whole = subst (λ (xs : List Step). InSpan (co_operands products xs) leak) (sym r.are_listed.same) r.spanned;
      }
