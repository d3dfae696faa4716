-- The loop over brackets.
use Rattle.std.proofs.Common.{◌≡◌, refl, sym, ap, ◌∙◌, ℕ, zero, suc, ◌+◌, ◌<◌, Bool, true, false, ◌||◌, List, [], ◌∷◌, length, drop, slice_get, get_or, arith, drop-cons, add-one}
use Rattle.std.specs.List.{list_any}
use Rattle.std.proofs.lemmas.List.{drop-map, length-map}
use Rattle.usuba_trees.specs.declared.Pick.{Pick}
use Rattle.usuba_cells.specs.declared.computing.Counter.{Counter}
use Rattle.usuba_model.specs.Cells.{Picked, picked, pick_outside, divides_by_zero, meets_too_big}
use Rattle.usuba_cells.specs.Counters.{around}
use Rattle.usuba_cells.specs.State.Brackets.{brackets, picks_outside_of}

-- whether brackets from a level on pick past their sizes
pub outside-step : (sizes : List ℕ) (level : ℕ) (bracket : Picked) (rest : List Picked)
    → pick_outside (drop level sizes) (bracket ∷ rest)
    ≡ (picks_outside_of (slice_get sizes level) bracket || pick_outside (drop (level + 1) sizes) rest)
outside-step [] zero bracket rest = refl
outside-step [] (suc level) bracket rest = refl
outside-step (size ∷ sizes) zero bracket rest = refl
outside-step (size ∷ sizes) (suc level) bracket rest =
    let e : suc level + 1 ≡ suc (level + 1) = omega arith in
    outside-step sizes level bracket rest
    ∙ ap (λ n. picks_outside_of (slice_get sizes level) bracket || pick_outside (drop n (size ∷ sizes)) rest) (sym e)

or-assoc : (a b c : Bool) → ((a || b) || c) ≡ (a || (b || c))
or-assoc true b c = refl
or-assoc false b c = refl

-- one more test of several
pub or-step : (before here rest now whole : Bool) → now ≡ (before || here) → (before || (here || rest)) ≡ whole → (now || rest) ≡ whole
or-step before here rest now whole is same = ap (λ b. b || rest) is ∙ or-assoc before here rest ∙ same

-- the brackets from a level on begin with that of the level
pub next-bracket : (counters : List Counter) (picks : List Pick) (level : ℕ) (pick : Pick) → level < length picks → pick ≡ get_or picks level pick
    → brackets counters (drop level picks) ≡ picked (around counters) pick ∷ brackets counters (drop (level + 1) picks)
next-bracket counters picks level pick within is =
    ap (brackets counters)
    (drop-cons picks level pick within ∙ ap (λ x. x ∷ drop (suc level) picks) (sym is) ∙ ap (λ n. pick ∷ drop n picks) (sym (add-one level)))

-- the same of all brackets at once
pub bracket-at : (counters : List Counter) (picks : List Pick) (level : ℕ) (pick : Pick) (bracket : Picked) → level < length picks
    → pick ≡ get_or picks level pick → bracket ≡ picked (around counters) pick
    → drop level (brackets counters picks) ≡ bracket ∷ drop (level + 1) (brackets counters picks)
bracket-at counters picks level pick bracket within is bracket_is =
    drop-map (picked (around counters)) level picks
    ∙ next-bracket counters picks level pick within is
    ∙ ap (λ b. b ∷ brackets counters (drop (level + 1) picks)) (sym bracket_is)
    ∙ ap (λ l. bracket ∷ l) (sym (drop-map (picked (around counters)) (level + 1) picks))

-- there is a bracket for each pick
pub length-brackets : (counters : List Counter) (picks : List Pick) → length (brackets counters picks) ≡ length picks
length-brackets counters picks = length-map picks (picked (around counters))

-- what is told of the brackets before a level, with those from the level on, is what is told of all
pub record SoFar (sizes : List ℕ) (all rest : List Picked) (level : ℕ) (divided big outside : Bool) : Type 0 where
  pub divided_is : (divided || list_any divides_by_zero rest) ≡ list_any divides_by_zero all
  pub big_is : (big || list_any meets_too_big rest) ≡ list_any meets_too_big all
  pub outside_is : (outside || pick_outside (drop level sizes) rest) ≡ pick_outside sizes all

-- one more bracket
pub brackets-step : (sizes : List ℕ) (all before rest : List Picked) (level : ℕ) (bracket : Picked) (divided big outside divided' big' outside' : Bool)
    → before ≡ bracket ∷ rest
    → divided' ≡ (divided || divides_by_zero bracket) → big' ≡ (big || meets_too_big bracket)
    → outside' ≡ (outside || picks_outside_of (slice_get sizes level) bracket)
    → SoFar sizes all before level divided big outside → SoFar sizes all rest (level + 1) divided' big' outside'
brackets-step sizes all before rest level bracket divided big outside divided' big' outside' begins d b o so = record {
  divided_is = or-step divided (divides_by_zero bracket) (list_any divides_by_zero rest) divided' (list_any divides_by_zero all) d
      (sym (ap (λ l. divided || list_any divides_by_zero l) begins) ∙ so.divided_is);
  big_is = or-step big (meets_too_big bracket) (list_any meets_too_big rest) big' (list_any meets_too_big all) b
      (sym (ap (λ l. big || list_any meets_too_big l) begins) ∙ so.big_is);
  outside_is = or-step outside (picks_outside_of (slice_get sizes level) bracket) (pick_outside (drop (level + 1) sizes) rest) outside' (pick_outside sizes all) o
      (ap (λ x. outside || x) (sym (outside-step sizes level bracket rest))
      ∙ sym (ap (λ l. outside || pick_outside (drop level sizes) l) begins) ∙ so.outside_is);
}

or-false : (a : Bool) → (a || false) ≡ a
or-false true = refl
or-false false = refl

-- after the last bracket
pub brackets-end : (sizes : List ℕ) (all rest : List Picked) (level : ℕ) (divided big outside : Bool) → rest ≡ []
    → SoFar sizes all rest level divided big outside
    → (divided ≡ list_any divides_by_zero all) × (big ≡ list_any meets_too_big all) × (outside ≡ pick_outside sizes all)
brackets-end sizes all rest level divided big outside ends so = (
  sym (or-false divided) ∙ sym (ap (λ l. divided || list_any divides_by_zero l) ends) ∙ so.divided_is,
  sym (or-false big) ∙ sym (ap (λ l. big || list_any meets_too_big l) ends) ∙ so.big_is,
  sym (or-false outside) ∙ ap (λ b. outside || b) (sym (none (drop level sizes))) ∙ sym (ap (λ l. outside || pick_outside (drop level sizes) l) ends) ∙ so.outside_is,
)
  where
    none : (sizes : List ℕ) → pick_outside sizes [] ≡ false
    none [] = refl
    none (size ∷ sizes) = refl
