-- The numbered steps are the derivation.
use Rattle.std.proofs.Common.{◌≡◌, ◌≢◌, ◌<◌, ◌≤◌, ℕ, suc, List, [], ◌∷◌, length, map, get_or, take, refl, sym, ap, ◌∙◌, subst, arith, All}
use Rattle.std.specs.Prelude.{slice_index}
use Rattle.std.specs.List.{Contains}
use Rattle.std.proofs.lemmas.List.{length-map, get_or-map, get_or_default}
use Rattle.span_model.specs.Columns.{Columns, empty}
use Rattle.span_model.specs.Attack.{Product}
use Rattle.span_model.specs.Closure.{Step as ProductStep, on_left, operand, co_operand}
use Rattle.linear_view.specs.declared.operand.Side.TheVariants.{Left}
use Rattle.linear_view.specs.Sides.{step_of}
use Rattle.attack_model.specs.declared.attack.Step.{Step}
use Rattle.attack_probes.specs.Derivations.{product_step}
use Rattle.attack_model.specs.Derivations.{step_at}
use Rattle.attack_cert.specs.Levels.{listed}
use Rattle.attack_cert.specs.Derivation.{listed_at, lower_steps, places_of, IsReached, by_root, by_step, IsDerivation}
use Rattle.attack_cert.specs.Levelled.{levelled_steps, ReachLeak}
use Rattle.attack_cert.specs.Kept as kept_words
use Rattle.attack_cert.specs.Kept.{levelled_at, kept_places, StandFor, AreNumbered, IsPlaceReached, HasUses, AreReached}
use Rattle.attack_cert.specs.declared.levels.Levelled.{Levelled}
use Rattle.attack_cert.specs.declared.reached.Kept.{Kept}
use Rattle.attack_cert.proofs.Picks.{IsRising, rising_from, rising_once, rising_short}
use Rattle.attack_cert.proofs.Levelling.{length_listed}
use Rattle.attack_cert.proofs.Supporting.{at_listed, lower_listed}
use Rattle.attack_cert.proofs.Selecting.{least_as}

map_same : {X Y : Type 0} (f g : X → Y) (xs : List X) → All (λ x. f x ≡ g x) xs → map f xs ≡ map g xs
map_same f g [] h = refl
map_same f g (x ∷ xs) h = ap (λ y. y ∷ map f xs) (h 0 x (omega arith)) ∙ ap (λ ys. g x ∷ ys) (map_same f g xs (λ k d lt. h (suc k) d (omega arith)))

-- a use stands among the numbers where its place stands among the places
pub number_within : (places numbers uses : List ℕ) → StandFor places numbers uses → IsRising places → (place number : ℕ) → Contains uses place
    → number < length places → get_or places number 0 ≡ place → Contains numbers number
number_within places numbers uses stand rise place number (k, lt, e) fits is =
    let many : length uses ≡ length numbers = sym (ap length stand.same) ∙ length-map numbers (slice_index places) in
    let within : k < length numbers = omega arith in
    let at : get_or uses k place ≡ get_or places (get_or numbers k 0) 0
    = ap (λ (us : List ℕ). get_or us k place) (sym stand.same) ∙ get_or-map (slice_index places) numbers k 0 place within in
    let below : get_or numbers k 0 < length places = stand.below k 0 within in
    let same : get_or numbers k 0 ≡ number = rising_once places rise (get_or numbers k 0) number below fits (sym at ∙ e ∙ sym is) in
    (k, within, get_or_default numbers k number 0 within ∙ same)

module _ (listed' : List Levelled) (root numbers : List ℕ) (kept : List Kept) (steps : List Step) (m : AreNumbered listed' root kept steps numbers) where
  length_steps : length steps ≡ length (kept_places kept)
  length_steps = sym (length-map steps product_step) ∙ ap length m.same ∙ length-map (kept_places kept) (λ place. step_of (levelled_at listed' place).operand)

  length_kept : length (kept_places kept) ≡ length kept
  length_kept = length-map kept (λ (s : Kept). s.place)

  place_is : (k : ℕ) (d : Kept) → k < length kept → get_or (kept_places kept) k 0 ≡ (get_or kept k d).place
  place_is k d h = get_or-map (λ (s : Kept). s.place) kept k d 0 h

  -- what is reached by places is reached by numbers
  number_reached : IsRising (kept_places kept) → {place : ℕ} → IsPlaceReached root kept place → (number : ℕ) → number < length (kept_places kept)
      → get_or (kept_places kept) number 0 ≡ place → IsReached steps numbers number
  number_reached rise (kept_words.by_root {place = p} c) number fits is =
      by_root (number_within (kept_places kept) numbers root m.root_uses rise p number c fits is)
  number_reached rise (kept_words.by_step {place = p} user (j, lt, e) r c) number fits is =
      let fits_j : j < length (kept_places kept) = let l = length_kept in omega arith in
      let is_j : get_or (kept_places kept) j 0 ≡ user.place = place_is j user lt ∙ ap (λ (s : Kept). s.place) e in
      let c_j : Contains (get_or kept j user).uses p = subst (λ (s : Kept). Contains s.uses p) (sym e) c in
      by_step (number_reached rise r j fits_j is_j)
      (number_within (kept_places kept) (step_at steps j).uses (get_or kept j user).uses (m.uses j user lt) rise p number c_j fits is)

  step_is : (k : ℕ) → k < length steps → product_step (step_at steps k) ≡ step_of (levelled_at listed' (get_or (kept_places kept) k 0)).operand
  step_is k h =
      let blank : Step = record { product = 0; side = Left; uses = [] } in
      let none : ProductStep = record { product = 0; side = on_left } in
      let within : k < length (kept_places kept) = let l = length_steps in omega arith in
      sym (get_or-map product_step steps k blank none h)
      ∙ ap (λ (s : List ProductStep). get_or s k none) m.same
      ∙ get_or-map (λ place. step_of (levelled_at listed' place).operand) (kept_places kept) k 0 none within

module _ {C : Type 0} (products : List (Product C)) (leak : Columns C) where
  pub is_derivation : (steps : List Levelled) (root numbers : List ℕ) (kept : List Kept) (out : List Step) → leak ≢ empty → ReachLeak products leak steps
      → AreReached products leak steps root kept → AreNumbered steps root kept out numbers → IsDerivation products leak out numbers
  is_derivation steps root numbers kept out nonempty r a m =
      let levels : List (List ProductStep) = r.last ∷ r.lower in
      let places = kept_places kept in
      let many : length out ≡ length places = length_steps steps root numbers kept out m in
      let kept_many : length places ≡ length kept = length_kept steps root numbers kept out m in
      let listed_many : length steps ≡ length (listed levels) = length_listed levels steps r.are_listed in
      let rise : IsRising places = rising_from places a.rise in
      record {
        nonempty = nonempty;
        last = r.last;
        lower = r.lower;
        levels = r.levels;
        spanned = r.spanned;
        least = r.least;
        places = places;
        rise = a.rise;
        below = λ k d h. let b = a.below k d h in omega arith;
        kept = m.same ∙ map_same (λ place. step_of (levelled_at steps place).operand) (listed_at (listed levels)) places
            (λ k d h. at_listed levels steps r.are_listed (get_or places k d) (a.below k d h));
        root_numbers = λ k d h. let b = m.root_uses.below k d h in omega arith;
        root_uses = least_as [] [] (map (co_operand products) (levelled_steps steps)) (map (co_operand products) (listed levels)) leak root (places_of places numbers)
            refl (ap (map (co_operand products)) r.are_listed.same) (sym m.root_uses.same) a.root_uses;
        numbers = λ k d h j e l.
            let at : get_or out k d ≡ step_at out k = get_or_default out k d (record { product = 0; side = Left; uses = [] }) h in
            let within : k < length kept = omega arith in
            let below : All (λ n. n < length places) (get_or out k d).uses
            = subst (λ (s : Step). All (λ n. n < length places) s.uses) (sym at) (m.uses k (record { place = 0; uses = [] }) within).below in
            let b = below j e l in omega arith;
        uses = λ number h.
            let blank : Kept = record { place = 0; uses = [] } in
            let within : number < length kept = omega arith in
            let place = get_or places number 0 in
            let place_of : place ≡ (get_or kept number blank).place = place_is steps root numbers kept out m number blank within in
            let here : place < length steps = a.below number 0 (omega arith) in
            let has : HasUses products leak steps place (get_or kept number blank).uses
            = subst (λ (p : ℕ). HasUses products leak steps p (get_or kept number blank).uses) (sym place_of) (a.uses number blank within) in
            least_as (operand products (step_of (levelled_at steps place).operand)) (operand products (product_step (step_at out number)))
            (map (co_operand products) (take (levelled_at steps place).lower (levelled_steps steps))) (map (co_operand products) (lower_steps levels place)) leak
            (get_or kept number blank).uses (places_of places (step_at out number).uses)
            (ap (operand products) (sym (step_is steps root numbers kept out m number h)))
            (ap (map (co_operand products)) (lower_listed levels steps r.are_listed place here))
            (sym (m.uses number blank within).same)
            has;
        reached = λ number h.
            let within : number < length places = omega arith in
            number_reached steps root numbers kept out m rise (a.reached number 0 within) number within refl;
      }

  pub no_more_steps : (steps : List Levelled) (root numbers : List ℕ) (kept : List Kept) (out : List Step)
      → AreReached products leak steps root kept → AreNumbered steps root kept out numbers → length out ≤ length steps
  no_more_steps steps root numbers kept out a m =
      let many : length out ≡ length (kept_places kept) = length_steps steps root numbers kept out m in
      let short = rising_short (kept_places kept) (length steps) (rising_from (kept_places kept) a.rise) a.below in
      omega arith
