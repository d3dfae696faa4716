-- Names passed over one after the other.
use Rattle.std.proofs.Common.{◌≡◌, Bool, true, false, List, [], ◌∷◌, ◌++◌, Option, None, Some, Result, Ok, Err, refl, sym, ap, subst, ◌∙◌, arith}
use Rattle.std.specs.Result.{IsErrAnd}
use Rattle.c_names.specs.Laws.{NoneIsBad}
use Rattle.c_names.specs.Names.{first_bad}
use Rattle.c_names.specs.State.Answers.{IsAnswer, IsPassed, passed}
use Rattle.c_names.specs.declared.fault.NameFault.{NameFault}
use Rattle.c_names.specs.declared.fault.NameFault.TheVariants as fault
use Rattle.tor_edge.specs.declared.place.Place.{Place}

-- further names, where the ones before were right
abbrev pub then_pass : Result (List Place) Place → List Bool → Result (List Place) Place
then_pass (Ok places) names = passed names places
then_pass (Err place) names = Err place

no_places : (names : List Bool) → passed names [] ≡ Ok []
no_places [] = refl
no_places (right ∷ names) = refl

pub passed-append : (names more : List Bool) (places : List Place) → passed (names ++ more) places ≡ then_pass (passed names places) more
passed-append [] more places = refl
passed-append (right ∷ names) more [] = sym (no_places more)
passed-append (true ∷ names) more (place ∷ places) = passed-append names more places
passed-append (false ∷ names) more (place ∷ places) = refl

-- names that are right, and then others
pub passed_on : (names more : List Bool) (places left : List Place) → passed names places ≡ Ok left → passed (names ++ more) places ≡ passed more left
passed_on names more places left e = passed-append names more places ∙ ap (λ (r : Result (List Place) Place). then_pass r more) e

-- a name that is not right, and then others
pub passed_not : (names more : List Bool) (places : List Place) (place : Place) → passed names places ≡ Err place → passed (names ++ more) places ≡ Err place
passed_not names more places place e = passed-append names more places ∙ ap (λ (r : Result (List Place) Place). then_pass r more) e

-- the first bad name
pub bad_of : Result (List Place) Place → Option Place
bad_of (Ok places) = None
bad_of (Err place) = Some place

pub first_bad_is : (names : List Bool) (places : List Place) (r : Result (List Place) Place) → passed names places ≡ r → first_bad names places ≡ bad_of r
unfolding bad_of
first_bad_is [] places r e = ap bad_of e
first_bad_is (right ∷ names) [] r e = ap bad_of e
first_bad_is (true ∷ names) (place ∷ places) r e = first_bad_is names places r e
first_bad_is (false ∷ names) (place ∷ places) r e = ap bad_of e

pub none_is_bad : NoneIsBad
none_is_bad [] places fits = (λ _. refl, λ _. refl)
none_is_bad (right ∷ names) [] fits = absurd (omega arith)
none_is_bad (true ∷ names) (place ∷ places) fits = none_is_bad names places (omega arith)
none_is_bad (false ∷ names) (place ∷ places) fits = (λ bad. let never : ⊥ = cc in absurd never, λ bad. let never : ⊥ = cc in absurd never)

-- ---- as the code answers

-- a name before was not right
pub not_passed : (names more : List Bool) (places left other : List Place) (said : Result Unit NameFault) (wrong : NameFault) → IsErrAnd said (λ x. x ≡ wrong)
    → IsPassed (passed names places) (Err wrong) other → IsPassed (passed (names ++ more) places) said left
not_passed names more places left other (Ok done) wrong is h = absurd is
not_passed names more places left other (Err (fault.BadName place)) wrong is h =
    let bad : passed names places ≡ Err place = subst (λ w. IsPassed (passed names places) (Err w) other) (sym is) h in
    passed_not names more places place bad
not_passed names more places left other (Err (fault.Memory error)) wrong is h = tt

-- the names before were right
pub then_passed : (names more : List Bool) (places middle left : List Place) (said : Result Unit NameFault) → passed names places ≡ Ok middle → IsPassed (passed more middle) said left
    → IsPassed (passed (names ++ more) places) said left
then_passed names more places middle left said e h = subst (λ r. IsPassed r said left) (sym (passed_on names more places middle e)) h

-- an error that is handed on
pub handed_on : (wanted : Result (List Place) Place) (left other : List Place) (said : Result Unit NameFault) (wrong : NameFault) → IsErrAnd said (λ x. x ≡ wrong)
    → IsPassed wanted (Err wrong) other → IsPassed wanted said left
handed_on wanted left other (Ok done) wrong is h = absurd is
handed_on wanted left other (Err (fault.BadName place)) wrong is h = let bad : wanted ≡ Err place = subst (λ w. IsPassed wanted (Err w) other) (sym is) h in bad
handed_on wanted left other (Err (fault.Memory error)) wrong is h = tt

-- the first bad name, as the code answers
pub answered : (names : List Bool) (places left : List Place) (said : Result Unit NameFault) → IsPassed (passed names places) said left → IsAnswer (first_bad names places) said
unfolding bad_of
answered names places left (Ok done) h = first_bad_is names places (Ok left) h
answered names places left (Err (fault.BadName place)) h = first_bad_is names places (Err place) h
answered names places left (Err (fault.Memory error)) h = tt
