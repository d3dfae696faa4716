-- What the test of uses says of them.
use Rattle.std.proofs.Common.{◌≡◌, ◌<◌, ◌≤◌, ◌+◌, ℕ, zero, suc, Bool, true, ltb, leb, ◌&&◌, List, [], ◌∷◌, length, get_or, refl, sym, subst, arith}
use Rattle.std.specs.List.{All}
use Rattle.std.specs.List.Sorted.{IsStrictlyIncreasing}
use Rattle.std.proofs.lemmas.Bool.{and_parts, and_from, ltb-true, leb-true, lt-ltb, le-leb}
use Rattle.std.proofs.lemmas.List.Elements.{All-cons}
use Rattle.attack_model.specs.Derivations.{are_uses, AreUses}

-- the first of uses, and those after it
pub use_parts : (least bound first : ℕ) (uses : List ℕ) → are_uses least bound (first ∷ uses) ≡ true
    → (least ≤ first) × (first < bound) × (are_uses (suc first) bound uses ≡ true)
use_parts least bound first uses h =
    let w = and_parts (leb least first && ltb first bound) (are_uses (suc first) bound uses) h in
    let v = and_parts (leb least first) (ltb first bound) w.0 in
    (leb-true least first v.0, ltb-true first bound v.1, w.1)

-- uses from parts of them
pub use_cons : (least bound first : ℕ) (uses : List ℕ) → least ≤ first → first < bound → are_uses (suc first) bound uses ≡ true
    → are_uses least bound (first ∷ uses) ≡ true
use_cons least bound first uses low high rest =
    and_from (leb least first && ltb first bound) (are_uses (suc first) bound uses)
    (and_from (leb least first) (ltb first bound) (le-leb least first low) (lt-ltb first bound high)) rest

below_from : (least bound : ℕ) (uses : List ℕ) → are_uses least bound uses ≡ true → All (λ k. k < bound) uses
below_from least bound [] h = λ k d within. absurd (omega arith)
below_from least bound (first ∷ uses) h =
    let w = use_parts least bound first uses h in
    All-cons (λ k. k < bound) first uses w.1 (below_from (suc first) bound uses w.2)

increase_from : (least bound : ℕ) (uses : List ℕ) → are_uses least bound uses ≡ true → IsStrictlyIncreasing uses
increase_from least bound [] h k within = absurd (omega arith)
increase_from least bound (first ∷ []) h k within = absurd (omega arith)
increase_from least bound (first ∷ next ∷ uses) h zero within =
    let w = use_parts least bound first (next ∷ uses) h in
    (use_parts (suc first) bound next uses w.2).0
increase_from least bound (first ∷ next ∷ uses) h (suc k) within =
    let w = use_parts least bound first (next ∷ uses) h in
    let later : get_or (next ∷ uses) k 0 < get_or (next ∷ uses) (k + 1) 0 = increase_from (suc first) bound (next ∷ uses) w.2 k (omega arith) in
    let place : suc k + 1 ≡ suc (k + 1) = omega arith in
    subst (λ (m : ℕ). get_or (next ∷ uses) k 0 < get_or (first ∷ next ∷ uses) m 0) (sym place) later

-- numbers that rise from `least` on and are below the bound are uses
pub uses_from : (least bound : ℕ) (uses : List ℕ) → (0 < length uses → least ≤ get_or uses 0 0) → IsStrictlyIncreasing uses → All (λ k. k < bound) uses
    → are_uses least bound uses ≡ true
uses_from least bound [] first rise below = refl
uses_from least bound (k ∷ []) first rise below = use_cons least bound k [] (first (omega arith)) (below 0 0 (omega arith)) refl
uses_from least bound (k ∷ next ∷ uses) first rise below =
    use_cons least bound k (next ∷ uses) (first (omega arith)) (below 0 0 (omega arith))
    (uses_from (suc k) bound (next ∷ uses) (λ lt. let above : k < next = rise 0 (omega arith) in omega arith)
    (λ j lt.
    let place : suc j + 1 ≡ suc (j + 1) = omega arith in
    subst (λ (m : ℕ). get_or (next ∷ uses) j 0 < get_or (k ∷ next ∷ uses) m 0) place (rise (suc j) (omega arith)))
    (λ j d lt. below (suc j) d (omega arith)))

-- rising numbers below the bound are uses
pub are_uses_from : (bound : ℕ) (uses : List ℕ) → IsStrictlyIncreasing uses → All (λ k. k < bound) uses → AreUses bound uses
are_uses_from bound uses rise below = uses_from 0 bound uses (λ some. omega arith) rise below

-- uses are below the bound
pub uses_below : (bound : ℕ) (uses : List ℕ) → AreUses bound uses → All (λ k. k < bound) uses
uses_below bound uses are = below_from 0 bound uses are

-- and rise
pub uses_increase : (bound : ℕ) (uses : List ℕ) → AreUses bound uses → IsStrictlyIncreasing uses
uses_increase bound uses are = increase_from 0 bound uses are
