-- The distinct terms of a walk are at most as many as the terms among which they all are.
use Rattle.std.proofs.Common.{◌≡◌, ℕ, ◌+◌, ◌≤◌, ◌∙◌, Bool, true, false, List, [], ◌∷◌, ◌++◌, length, refl, sym, ap, arith, if◌then◌else◌, length-append}
use Rattle.usuba_model.proofs.CellLemmas.{false_true}
use Rattle.usuba0.specs.declared.circuit.Reg.{Reg}
use Rattle.usuba0.specs.Term.{Term, Input, Const, Xor, Not, Mask, And, Shl, Shr, Rotl, Refresh}
use Rattle.usuba0.specs.CoreOfTerms.{walk, same_term, is_among, first_places, subterms, equations_of}
use Rattle.usuba0.specs.State.Walk.{AllAmong}
use Rattle.usuba0.proofs.WalkLemmas.{same_term-true, among_left, among_last}

-- how many of some terms are not among those found
abbrev missing : List Term → List Term → ℕ
missing found [] = 0
missing found (m ∷ made) = (if is_among m found then 0 else 1) + missing found made

missing_at_most : (found made : List Term) → missing found made ≤ length made
missing_at_most found [] = omega arith
missing_at_most found (m ∷ made) = let later = missing_at_most found made in let here
    = one (is_among m found) in omega (arith, later, here)
  where
    one : (b : Bool) → (if b then 0 else 1) ≤ 1
    one true = omega arith
    one false = omega arith

falls : (a b : Bool) → (a ≡ true → b ≡ true) → (if b then 0 else 1) ≤ (if a then 0 else 1)
falls true true more = omega arith
falls true false more = false_true (more refl)
falls false true more = omega arith
falls false false more = omega arith

-- the more is found, the less is missing
missing_falls : (found more made : List Term) → missing (found ++ more) made ≤ missing found made
missing_falls found more [] = omega arith
missing_falls found more (m ∷ made) =
    let here = falls (is_among m found) (is_among m (found ++ more)) (among_left m found more) in
    let later = missing_falls found more made in
    omega (arith, here, later)

-- a term that was missing is so no more once it is found
missing_found : (t : Term) (found made : List Term) → is_among t found ≡ false → is_among t made ≡ true
    → missing (found ++ t ∷ []) made + 1 ≤ missing found made
missing_found t found [] new there = false_true there
missing_found t found (m ∷ made) new there = of_test (same_term t m) refl there (missing_found t found made new)
  where
    at_it : t ≡ m → missing (found ++ t ∷ []) (m ∷ made) + 1 ≤ missing found (m ∷ made)
    at_it same =
        let one : ℕ = 1 in
        let none : ℕ = 0 in
        let before : (if is_among m found then 0 else 1) ≡ one
        = ap (λ (b : Bool). if b then 0 else 1) (ap (λ (u : Term). is_among u found) (sym same) ∙ new) in
        let after : (if is_among m (found ++ t ∷ []) then 0 else 1) ≡ none
        = ap (λ (b : Bool). if b then 0 else 1) (ap (λ (u : Term). is_among u (found ++ t ∷ [])) (sym same)
        ∙ among_last t found) in
        let later = missing_falls found (t ∷ []) made in
        omega (arith, before, after, later)

    of_test : (b : Bool) → same_term t m ≡ b → (if b then true else is_among t made) ≡ true
        → (is_among t made ≡ true → missing (found ++ t ∷ []) made + 1 ≤ missing found made)
        → missing (found ++ t ∷ []) (m ∷ made) + 1 ≤ missing found (m ∷ made)
    of_test true is e rest = at_it (same_term-true t m is)
    of_test false is e rest =
        let here = falls (is_among m found) (is_among m (found ++ t ∷ [])) (among_left m found (t ∷ [])) in
        let later = rest e in
        omega (arith, here, later)

-- the first places of terms among some
places_at_most : (us found made : List Term) → AllAmong us made
    → length (first_places found us) ≤ length found + missing found made
places_at_most [] found made all = omega arith
places_at_most (t ∷ us) found made all =
    of_test (is_among t found) refl (places_at_most us found made all.1)
    (places_at_most us (found ++ t ∷ []) made all.1)
  where
    of_test : (b : Bool) → is_among t found ≡ b → length (first_places found us) ≤ length found + missing found made
        → length (first_places (found ++ t ∷ []) us) ≤ length (found ++ t ∷ []) + missing (found ++ t ∷ []) made
        → length (first_places (if b then found else found ++ t ∷ []) us) ≤ length found + missing found made
    of_test true is same later = same
    of_test false is same later =
        let less = missing_found t found made is all.0 in
        let longer : length (found ++ t ∷ []) ≡ length found + 1 = length-append found (t ∷ []) in
        omega (arith, later, less, longer)

pub subterms_at_most : (terms made : List Term) → AllAmong (walk terms) made → length (subterms terms) ≤ length made
subterms_at_most terms made all =
    let places = places_at_most (walk terms) [] made all in
    let few = missing_at_most [] made in
    omega (arith, places, few)

-- there are at most as many equations as terms
pub equations_at_most : (reg : Term → Reg) (ts : List Term) → length (equations_of reg ts) ≤ length ts
equations_at_most reg [] = omega arith
equations_at_most reg (Input i ∷ ts) = let later = equations_at_most reg ts in omega (arith, later)
equations_at_most reg (Const c ∷ ts) = let later = equations_at_most reg ts in omega (arith, later)
equations_at_most reg (Xor a b ∷ ts) = let later = equations_at_most reg ts in omega (arith, later)
equations_at_most reg (Not a ∷ ts) = let later = equations_at_most reg ts in omega (arith, later)
equations_at_most reg (Mask c a ∷ ts) = let later = equations_at_most reg ts in omega (arith, later)
equations_at_most reg (And a b ∷ ts) = let later = equations_at_most reg ts in omega (arith, later)
equations_at_most reg (Shl k a ∷ ts) = let later = equations_at_most reg ts in omega (arith, later)
equations_at_most reg (Shr k a ∷ ts) = let later = equations_at_most reg ts in omega (arith, later)
equations_at_most reg (Rotl k a ∷ ts) = let later = equations_at_most reg ts in omega (arith, later)
equations_at_most reg (Refresh k a ∷ ts) = let later = equations_at_most reg ts in omega (arith, later)
