-- Lists of terms without repeats, and the walk over numbers.
use Rattle.std.proofs.Common.{◌≡◌, ℕ, zero, suc, ◌+◌, ◌<◌, ◌⊎◌, inl, inr, Bool, true, false, ◌&&◌, ◌==◌, List, [], ◌∷◌, ◌++◌, length, get_or, refl, sym, ap, subst, ◌∙◌, arith, append_assoc, if◌then◌else◌, true≢false}
use Rattle.std.proofs.lemmas.List.{append-nil}
use Rattle.std.proofs.lemmas.Bool.Decides.{nat_tests}
use Rattle.usuba0.specs.Term.{Term, Input, Const, Xor, Not, Mask, And, Shl, Shr, Rotl, Refresh}
use Rattle.usuba0.specs.CoreOfTerms.{postorder, walk, same_term, is_among, first_places, place_of}
use Rattle.usuba0.specs.State.Walk.{AllAmong}

-- ---- equality of terms

number_same : (a b : ℕ) → (a == b) ≡ true → a ≡ b
number_same a b e = grind (arith, nat_tests)

number_itself : (a : ℕ) → (a == a) ≡ true
number_itself a = grind (arith, nat_tests)

and_left : (a b : Bool) → (a && b) ≡ true → a ≡ true
and_left true b e = refl
and_left false b e = e

and_right : (a b : Bool) → (a && b) ≡ true → b ≡ true
and_right true b e = e
and_right false b e = absurd (true≢false (sym e))

and_both : (a b : Bool) → a ≡ true → b ≡ true → (a && b) ≡ true
and_both a b p q = ap (λ (x : Bool). x && b) p ∙ q

-- terms that the test takes for one are one
pub same_term-true : (t u : Term) → same_term t u ≡ true → t ≡ u
same_term-true (Input i) (Input j) e = ap Input (number_same i j e)
same_term-true (Const c) (Const d) e = ap Const (number_same c d e)
same_term-true (Xor a b) (Xor x y) e =
    let p = same_term-true a x (and_left (same_term a x) (same_term b y) e) in let q = same_term-true b y (and_right (same_term a x) (same_term b y) e) in cc
same_term-true (Not a) (Not x) e = ap Not (same_term-true a x e)
same_term-true (Mask c a) (Mask d x) e =
    let p = same_term-true a x (and_right (c == d) (same_term a x) e) in let q = number_same c d (and_left (c == d) (same_term a x) e) in cc
same_term-true (And a b) (And x y) e =
    let p = same_term-true a x (and_left (same_term a x) (same_term b y) e) in let q = same_term-true b y (and_right (same_term a x) (same_term b y) e) in cc
same_term-true (Shl k a) (Shl m x) e =
    let p = same_term-true a x (and_right (k == m) (same_term a x) e) in let q = number_same k m (and_left (k == m) (same_term a x) e) in cc
same_term-true (Shr k a) (Shr m x) e =
    let p = same_term-true a x (and_right (k == m) (same_term a x) e) in let q = number_same k m (and_left (k == m) (same_term a x) e) in cc
same_term-true (Rotl k a) (Rotl m x) e =
    let p = same_term-true a x (and_right (k == m) (same_term a x) e) in let q = number_same k m (and_left (k == m) (same_term a x) e) in cc
same_term-true (Refresh k a) (Refresh m x) e =
    let p = same_term-true a x (and_right (k == m) (same_term a x) e) in let q = number_same k m (and_left (k == m) (same_term a x) e) in cc
same_term-true t u e = absurd (true≢false (sym e))

-- the test takes a term for itself
pub same_term-itself : (t : Term) → same_term t t ≡ true
same_term-itself (Input i) = number_itself i
same_term-itself (Const c) = number_itself c
same_term-itself (Xor a b) = and_both _ _ (same_term-itself a) (same_term-itself b)
same_term-itself (Not a) = same_term-itself a
same_term-itself (Mask c a) = and_both _ _ (number_itself c) (same_term-itself a)
same_term-itself (And a b) = and_both _ _ (same_term-itself a) (same_term-itself b)
same_term-itself (Shl k a) = and_both _ _ (number_itself k) (same_term-itself a)
same_term-itself (Shr k a) = and_both _ _ (number_itself k) (same_term-itself a)
same_term-itself (Rotl k a) = and_both _ _ (number_itself k) (same_term-itself a)
same_term-itself (Refresh k a) = and_both _ _ (number_itself k) (same_term-itself a)

-- ---- being in a list

or_if : (a b : Bool) → b ≡ true → (if a then true else b) ≡ true
or_if true b e = refl
or_if false b e = e

among_left_by : (r a b : Bool) → (a ≡ true → b ≡ true) → (if r then true else a) ≡ true → (if r then true else b) ≡ true
among_left_by true a b f e = refl
among_left_by false a b f e = f e

-- what is among some terms is among more
pub among_left : (t : Term) (us vs : List Term) → is_among t us ≡ true → is_among t (us ++ vs) ≡ true
among_left t [] vs e = absurd (true≢false (sym e))
among_left t (u ∷ us) vs e = among_left_by (same_term t u) (is_among t us) (is_among t (us ++ vs)) (among_left t us vs) e

-- the last term is among the terms
pub among_last : (t : Term) (us : List Term) → is_among t (us ++ t ∷ []) ≡ true
among_last t [] = ap (λ (r : Bool). if r then true else false) (same_term-itself t)
among_last t (u ∷ us) = or_if (same_term t u) _ (among_last t us)

among_push_last : (t u : Term) (r : Bool) → same_term t u ≡ r → (if r then true else false) ≡ true → (is_among t [] ≡ true) ⊎ (t ≡ u)
among_push_last t u true p e = inr (same_term-true t u p)
among_push_last t u false p e = absurd (true≢false (sym e))

among_push_by : {P : Type 0} (r a b : Bool) → (b ≡ true → (a ≡ true) ⊎ P) → (if r then true else b) ≡ true → ((if r then true else a) ≡ true) ⊎ P
among_push_by true a b f e = inl refl
among_push_by false a b f e = f e

-- in a list and one more it is in the list, or it is the last one
pub among_push : (t u : Term) (us : List Term) → is_among t (us ++ u ∷ []) ≡ true → (is_among t us ≡ true) ⊎ (t ≡ u)
among_push t u [] e = among_push_last t u (same_term t u) refl e
among_push t u (v ∷ us) e = among_push_by (same_term t v) (is_among t us) (is_among t (us ++ u ∷ [])) (among_push t u us) e

abbrev At : Term → List Term → Term → ℕ → Type 0
At t us d k = (k < length us) × (get_or us k d ≡ t)

among_place_by : (t u : Term) (us : List Term) (d : Term) (k : ℕ) (r : Bool) → same_term t u ≡ r → (is_among t us ≡ true → At t us d k)
    → (if r then true else is_among t us) ≡ true → At t (u ∷ us) d (if r then 0 else k + 1)
among_place_by t u us d k true p f e = (omega arith, sym (same_term-true t u p))
among_place_by t u us d k false p f e =
    let h = f e in
    let one : k + 1 ≡ suc k = omega arith in
    (omega (arith, h.0), ap (λ (m : ℕ). get_or (u ∷ us) m d) one ∙ h.1)

-- the place of a term that is in the list
pub among_place : (t : Term) (us : List Term) (d : Term) → is_among t us ≡ true → At t us d (place_of t us)
among_place t [] d e = absurd (true≢false (sym e))
among_place t (u ∷ us) d e = among_place_by t u us d (place_of t us) (same_term t u) refl (among_place t us d) e

-- the term at a place is among the terms
pub among_at : (us : List Term) (k : ℕ) (d : Term) → k < length us → is_among (get_or us k d) us ≡ true
among_at [] k d h = absurd (omega arith)
among_at (u ∷ us) zero d h = ap (λ (r : Bool). if r then true else is_among u us) (same_term-itself u)
among_at (u ∷ us) (suc k) d h = or_if (same_term (get_or us k d) u) _ (among_at us k d (omega arith))

-- ---- all in a list

-- two lists that are among some terms are so together
pub AllAmong-append : (us vs ts : List Term) → AllAmong us ts → AllAmong vs ts → AllAmong (us ++ vs) ts
AllAmong-append [] vs ts p q = q
AllAmong-append (u ∷ us) vs ts p q = (p.0, AllAmong-append us vs ts p.1 q)

-- what is among some terms is among more
pub AllAmong-more : (us ts more : List Term) → AllAmong us ts → AllAmong us (ts ++ more)
AllAmong-more [] ts more p = tt
AllAmong-more (u ∷ us) ts more p = (among_left u ts more p.0, AllAmong-more us ts more p.1)

-- ---- first places

-- the first places of two lists, one after the other
pub first_places-append : (found us vs : List Term) → first_places found (us ++ vs) ≡ first_places (first_places found us) vs
first_places-append found [] vs = refl
first_places-append found (u ∷ us) vs = first_places-append (if is_among u found then found else found ++ u ∷ []) us vs

-- what is there already changes nothing
pub first_places-there : (found us vs : List Term) → AllAmong us found → first_places found (us ++ vs) ≡ first_places found vs
first_places-there found [] vs p = refl
first_places-there found (u ∷ us) vs p =
    ap (λ (r : Bool). first_places (if r then found else found ++ u ∷ []) (us ++ vs)) p.0 ∙ first_places-there found us vs p.1

abbrev Extends : List Term → List Term → Type 0
Extends found all = (more : List Term) × (all ≡ found ++ more)

extend_by : (found us : List Term) (u : Term) (r : Bool) → Extends found (first_places found us) → Extends (found ++ u ∷ []) (first_places (found ++ u ∷ []) us)
    → Extends found (first_places (if r then found else found ++ u ∷ []) us)
extend_by found us u true p q = p
extend_by found us u false p q = (u ∷ q.0, q.1 ∙ append_assoc found (u ∷ []) q.0)

-- first places go on from those that were found
pub first_places-extend : (found us : List Term) → (more : List Term) × (first_places found us ≡ found ++ more)
first_places-extend found [] = ([], sym (append-nil found))
first_places-extend found (u ∷ us) =
    extend_by found us u (is_among u found) (first_places-extend found us) (first_places-extend (found ++ u ∷ []) us)

-- terms that were found stay found
pub AllAmong-first_places : (us found vs : List Term) → AllAmong us found → AllAmong us (first_places found vs)
AllAmong-first_places us found vs p =
    let e = first_places-extend found vs in subst (λ (ts : List Term). AllAmong us ts) (sym e.1) (AllAmong-more us found e.0 p)

found_here : (u : Term) (found : List Term) (r : Bool) → is_among u found ≡ r → is_among u (if r then found else found ++ u ∷ []) ≡ true
found_here u found true p = p
found_here u found false p = among_last u found

-- each term has a first place
pub all_found : (us found : List Term) → AllAmong us (first_places found us)
all_found [] found = tt
all_found (u ∷ us) found =
    let next = if is_among u found then found else found ++ u ∷ [] in
    ((AllAmong-first_places (u ∷ []) next us (found_here u found (is_among u found) refl, tt)).0, all_found us next)

-- to walk a part first that comes first anyway
pub first_places-twice : (found us vs : List Term) → first_places found (us ++ (us ++ vs)) ≡ first_places found (us ++ vs)
first_places-twice found us vs =
    first_places-append found us (us ++ vs) ∙ first_places-there (first_places found us) us vs (all_found us found) ∙ sym (first_places-append found us vs)

-- the same, after a part that is there already
pub first_places-second : (found us vs rest : List Term) → AllAmong us found → first_places found (vs ++ (us ++ (vs ++ rest))) ≡ first_places found (us ++ (vs ++ rest))
first_places-second found us vs rest p =
    first_places-append found vs (us ++ (vs ++ rest))
    ∙ first_places-there (first_places found vs) us (vs ++ rest) (AllAmong-first_places us found vs p)
    ∙ first_places-there (first_places found vs) vs rest (all_found vs found)
    ∙ sym (first_places-append found vs rest)
    ∙ sym (first_places-there found us (vs ++ rest) p)

-- a term whose parts are there
pub first_places-one : (found us rest : List Term) (t : Term) → AllAmong us found → is_among t found ≡ false → first_places found ((us ++ t ∷ []) ++ rest) ≡ first_places (found ++ t ∷ []) rest
first_places-one found us rest t p q =
    ap (first_places found) (append_assoc us (t ∷ []) rest)
    ∙ first_places-there found us (t ∷ rest) p
    ∙ ap (λ (r : Bool). first_places (if r then found else found ++ t ∷ []) rest) q

-- the walk of two lists is the walk of one after that of the other
pub walk-append : (us vs : List Term) → walk (us ++ vs) ≡ walk us ++ walk vs
walk-append [] vs = refl
walk-append (u ∷ us) vs = ap (λ (l : List Term). postorder u ++ l) (walk-append us vs) ∙ sym (append_assoc (postorder u) (walk us) (walk vs))
