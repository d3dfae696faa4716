-- What follows from a derivation.
use Rattle.std.proofs.Common.{◌≡◌, ◌<◌, ◌≤◌, ◌*◌, ℕ, suc, List, [], ◌∷◌, ◌++◌, length, map, get_or, refl, sym, ap, ◌∙◌, subst, arith, All}
use Rattle.std.specs.Prelude.{slice_index}
use Rattle.std.proofs.lemmas.List.{length-map, length-take, get_or-map, get_or-take, get_or_default}
use Rattle.span_model.specs.Columns.{Columns}
use Rattle.span_model.specs.Span.{InSpan}
use Rattle.span_model.specs.Attack.{Product, IsAttack}
use Rattle.span_model.specs.Closure.{Step as ProductStep, on_left, operand, co_operand, co_operands}
use Rattle.span_select.specs.Selection.{AreLeastNumbers}
use Rattle.span_select.specs.SelectionLaws.{LeastSelections}
use Rattle.linear_view.specs.declared.operand.Side.TheVariants.{Left}
use Rattle.attack_model.specs.declared.attack.Step.{Step}
use Rattle.attack_probes.specs.Derivations.{product_step, used_steps, IsSound}
use Rattle.attack_model.specs.Derivations.{step_at, IsInOrder}
use Rattle.attack_probes.specs.Unfolding.{unfolding_of}
use Rattle.attack_probes.specs.UnfoldingLaws.{UnfoldingIsAttack}
use Rattle.attack_model.proofs.UseLemmas.{are_uses_from}
use Rattle.attack_cert.specs.Levels.{listed}
use Rattle.attack_cert.specs.Derivation.{listed_at, lower_steps, places_of, IsDerivation}
use Rattle.attack_cert.specs.DerivationLaws.{DerivationsHold}
use Rattle.attack_cert.specs.Levelled.{lower_counts}
use Rattle.attack_cert.proofs.Counting.{levels_few}
use Rattle.attack_cert.proofs.Picks.{IsRising, rising_from, rising_back, rising_increases, rising_short, numbers_rise, numbered_rows, picked_rows}
use Rattle.attack_cert.proofs.Supporting.{count_bound, lower_first, level_spans}
use Rattle.attack_cert.proofs.Selecting.{least_within}
use Rattle.attack_cert.proofs.Sameness.{one_derivation}
use Rattle.attack_cert.proofs.Existing.{leak_derived}

module _ {C : Type 0} (products : List (Product C)) (leak : Columns C) where
  -- least numbers rise
  least_rise : (own : List (Columns C)) (groups : List (List (Columns C))) (numbers : List ℕ) → AreLeastNumbers own groups leak numbers → IsRising numbers
  least_rise own groups numbers (picks, least, is) = subst IsRising (sym is) (numbers_rise 0 picks)

  -- the rows of the groups of least numbers, with one's own, span the leak
  least_spans : (own : List (Columns C)) (groups : List (List (Columns C))) (numbers : List ℕ) → AreLeastNumbers own groups leak numbers
      → InSpan (own ++ numbered_rows groups numbers) leak
  least_spans own groups numbers (picks, least, is) =
      subst (λ (rows : List (Columns C)). InSpan (own ++ rows) leak)
      (sym (picked_rows groups picks least.count) ∙ ap (numbered_rows groups) (sym is)) least.spans

  -- numbers of rising places rise where the places do
  rise_back : (places numbers : List ℕ) → IsRising places → All (λ n. n < length places) numbers → IsRising (places_of places numbers) → IsRising numbers
  rise_back places numbers rise below rises i j lt h =
      let hi : i < length numbers = omega arith in
      let many = length-map numbers (slice_index places) in
      let less : get_or (places_of places numbers) i 0 < get_or (places_of places numbers) j 0 = rises i j lt (omega arith) in
      let at_i : get_or (places_of places numbers) i 0 ≡ get_or places (get_or numbers i 0) 0 = get_or-map (slice_index places) numbers i 0 0 hi in
      let at_j : get_or (places_of places numbers) j 0 ≡ get_or places (get_or numbers j 0) 0 = get_or-map (slice_index places) numbers j 0 0 h in
      rising_back places rise (get_or numbers i 0) (get_or numbers j 0) (below i 0 hi) (below j 0 h) (omega arith)

  below_back : (places numbers : List ℕ) (k : ℕ) → IsRising places → All (λ n. n < length places) numbers → k < length places
      → All (λ p. p < get_or places k 0) (places_of places numbers) → All (λ n. n < k) numbers
  below_back places numbers k rise below h lower i d hi =
      let many = length-map numbers (slice_index places) in
      let less = lower i 0 (omega arith) in
      let at : get_or (places_of places numbers) i 0 ≡ get_or places (get_or numbers i d) 0 = get_or-map (slice_index places) numbers i d 0 hi in
      rising_back places rise (get_or numbers i d) k (below i d hi) h (omega arith)

  module _ (steps : List Step) (root : List ℕ) (d : IsDerivation products leak steps root) where
    many_steps : length steps ≡ length d.places
    many_steps = sym (length-map steps product_step) ∙ ap length d.kept ∙ length-map d.places (listed_at (listed (d.last ∷ d.lower)))

    step_is : (k : ℕ) → k < length steps → product_step (step_at steps k) ≡ listed_at (listed (d.last ∷ d.lower)) (get_or d.places k 0)
    step_is k h =
        let within : k < length d.places = let e = many_steps in omega arith in
        let none : ProductStep = record { product = 0; side = on_left } in
        sym (get_or-map product_step steps k (record { product = 0; side = Left; uses = [] }) none h)
        ∙ ap (λ (s : List ProductStep). get_or s k none) d.kept
        ∙ get_or-map (listed_at (listed (d.last ∷ d.lower))) d.places k 0 none within

    place_listed : (k : ℕ) → k < length steps → get_or d.places k 0 < length (listed (d.last ∷ d.lower))
    place_listed k h = d.below k 0 (let e = many_steps in omega arith)

    uses_kept : (k : ℕ) → k < length steps → All (λ n. n < length d.places) (step_at steps k).uses
    uses_kept k h i e l = let b = d.numbers k (record { product = 0; side = Left; uses = [] }) h i e l in let m = many_steps in omega arith

    root_kept : All (λ n. n < length d.places) root
    root_kept i e l = let b = d.root_numbers i e l in let m = many_steps in omega arith

    few_lower : (place : ℕ) → place < length (listed (d.last ∷ d.lower)) → length (lower_steps (d.last ∷ d.lower) place) ≤ place
    few_lower place h =
        let bound = count_bound (d.last ∷ d.lower) place h in
        let e = ap length (lower_first (d.last ∷ d.lower) place h) in
        let t = length-take (get_or (lower_counts (d.last ∷ d.lower)) place 0) (listed (d.last ∷ d.lower)) in
        omega arith

    -- the uses of a step, as places, are among the lower steps
    uses_lower : (k : ℕ) → k < length steps → All (λ p. p < length (lower_steps (d.last ∷ d.lower) (get_or d.places k 0))) (places_of d.places (step_at steps k).uses)
    uses_lower k h =
        let place = get_or d.places k 0 in
        let count = length-map (lower_steps (d.last ∷ d.lower) place) (co_operand products) in
        least_within (operand products (product_step (step_at steps k))) (map (co_operand products) (lower_steps (d.last ∷ d.lower) place)) leak
        (places_of d.places (step_at steps k).uses) (length (lower_steps (d.last ∷ d.lower) place)) (d.uses k h) (omega arith)

    root_lower : All (λ p. p < length (listed (d.last ∷ d.lower))) (places_of d.places root)
    root_lower =
        let count = length-map (listed (d.last ∷ d.lower)) (co_operand products) in
        least_within [] (map (co_operand products) (listed (d.last ∷ d.lower))) leak (places_of d.places root) (length (listed (d.last ∷ d.lower))) d.root_uses (omega arith)

    pub derived_few : length steps ≤ 2 * length products
    derived_few =
        let many = many_steps in
        let short = rising_short d.places (length (listed (d.last ∷ d.lower))) (rising_from d.places d.rise) d.below in
        let few = levels_few products leak (d.last ∷ d.lower) d.levels in
        omega arith

    pub derived_within : All (λ step. step.product < length products) steps
    derived_within k e h =
        let blank : Step = record { product = 0; side = Left; uses = [] } in
        let spans = level_spans products leak (d.last ∷ d.lower) d.levels (get_or d.places k 0) (place_listed k h) in
        let at : get_or steps k blank ≡ get_or steps k e = get_or_default steps k blank e h in
        subst (λ (s : Step). s.product < length products) at
        (subst (λ (s : ProductStep). s.product < length products) (sym (step_is k h)) spans.within)

    pub derived_in_order : IsInOrder steps root
    derived_in_order = record {
      earlier = λ k h.
          let place = get_or d.places k 0 in
          let uses = (step_at steps k).uses in
          let within : k < length d.places = let m = many_steps in omega arith in
          are_uses_from k uses
          (rising_increases uses (rise_back d.places uses (rising_from d.places d.rise) (uses_kept k h)
          (least_rise (operand products (product_step (step_at steps k))) (map (co_operand products) (lower_steps (d.last ∷ d.lower) place)) (places_of d.places uses) (d.uses k h))))
          (below_back d.places uses k (rising_from d.places d.rise) (uses_kept k h) within
          (λ i e l. let b = uses_lower k h i e l in let f = few_lower place (place_listed k h) in omega arith));
      within = are_uses_from (length steps) root
          (rising_increases root (rise_back d.places root (rising_from d.places d.rise) root_kept
          (least_rise [] (map (co_operand products) (listed (d.last ∷ d.lower))) (places_of d.places root) d.root_uses)))
          d.root_numbers;
    }

    -- the rows of groups of numbered places are the co-operands of the steps that are used
    rows_used : (some : List ProductStep) → ((p : ℕ) → p < length some → listed_at some p ≡ listed_at (listed (d.last ∷ d.lower)) p)
        → (numbers : List ℕ) → All (λ n. n < length steps) numbers → All (λ p. p < length some) (places_of d.places numbers)
        → numbered_rows (map (co_operand products) some) (places_of d.places numbers) ≡ co_operands products (used_steps steps numbers)
    rows_used some first [] below lower = refl
    rows_used some first (n ∷ numbers) below lower =
        let none : ProductStep = record { product = 0; side = on_left } in
        let place = get_or d.places n 0 in
        let lt : place < length some = lower 0 0 (omega arith) in
        let here : get_or (map (co_operand products) some) place [] ≡ co_operand products (product_step (step_at steps n))
        = get_or-map (co_operand products) some place none [] lt ∙ ap (co_operand products) (first place lt ∙ sym (step_is n (below 0 0 (omega arith)))) in
        let rest = rows_used some first numbers (λ k e h. below (suc k) e (omega arith)) (λ k e h. lower (suc k) e (omega arith)) in
        ap (λ (rows : List (Columns C)). rows ++ numbered_rows (map (co_operand products) some) (places_of d.places numbers)) here
        ∙ ap (λ (rows : List (Columns C)). co_operand products (product_step (step_at steps n)) ++ rows) rest

    lower_listed_first : (place : ℕ) → place < length (listed (d.last ∷ d.lower)) → (p : ℕ) → p < length (lower_steps (d.last ∷ d.lower) place)
        → listed_at (lower_steps (d.last ∷ d.lower) place) p ≡ listed_at (listed (d.last ∷ d.lower)) p
    lower_listed_first place h p lt =
        let count = get_or (lower_counts (d.last ∷ d.lower)) place 0 in
        let is = lower_first (d.last ∷ d.lower) place h in
        let e = ap length is in
        let t = length-take count (listed (d.last ∷ d.lower)) in
        ap (λ (xs : List ProductStep). listed_at xs p) is
        ∙ get_or-take count (listed (d.last ∷ d.lower)) p (record { product = 0; side = on_left }) (omega arith)

    pub derived_sound : IsSound products leak steps root
    derived_sound = record {
      nonempty = d.nonempty;
      derived = λ k e h.
          let blank : Step = record { product = 0; side = Left; uses = [] } in
          let place = get_or d.places k 0 in
          let lower = lower_steps (d.last ∷ d.lower) place in
          subst (λ (s : Step). InSpan (operand products (product_step s) ++ co_operands products (used_steps steps s.uses)) leak) (get_or_default steps k blank e h)
          (subst (λ (rows : List (Columns C)). InSpan (operand products (product_step (step_at steps k)) ++ rows) leak)
          (rows_used lower (lower_listed_first place (place_listed k h)) (step_at steps k).uses (d.numbers k blank h) (uses_lower k h))
          (least_spans (operand products (product_step (step_at steps k))) (map (co_operand products) lower) (places_of d.places (step_at steps k).uses) (d.uses k h)));
      shown = subst (λ (rows : List (Columns C)). InSpan rows leak)
          (rows_used (listed (d.last ∷ d.lower)) (λ p lt. refl) root d.root_numbers root_lower)
          (least_spans [] (map (co_operand products) (listed (d.last ∷ d.lower))) (places_of d.places root) d.root_uses);
    }

    pub derived_attack : UnfoldingIsAttack C → IsAttack products (length (unfolding_of steps root)) leak (unfolding_of steps root)
    derived_attack law = law products leak steps root derived_within derived_in_order derived_sound

pub derivations_hold : {C : Type 0} → LeastSelections C → UnfoldingIsAttack C → DerivationsHold C
derivations_hold least law = record {
  one = λ products leak steps others root other_root. one_derivation products leak least steps others root other_root;
  few = derived_few;
  within = derived_within;
  in_order = derived_in_order;
  sound = derived_sound;
  exists = leak_derived;
  leaks = λ products leak steps root d. (length (unfolding_of steps root), unfolding_of steps root, derived_attack products leak steps root d law);
}
