-- The first fault of findings, part by part.
use Rattle.std.proofs.Common.{◌≡◌, ℕ, ◌≤◌, Bool, true, false, List, [], ◌∷◌, ◌++◌, length, drop, map, Option, Some}
use Rattle.std.proofs.Common.{None, refl, sym, ap, ◌∙◌}
use Rattle.std.specs.Prelude.{flat_map, if◌then◌else◌}
use Rattle.std.specs.Option.{option_or}
use Rattle.tor_edge.specs.declared.place.Place.{Place}
use Rattle.usuba_model.specs.declared.fault.Fault.{Fault}
use Rattle.usuba_model.specs.declared.fault.FaultKind.{FaultKind}
use Rattle.usuba_model.specs.Faults.{Finding, first_of, either}
use Rattle.usuba_phases.proofs.FirstSome.{first_some, loop-end}

-- the first of two faults, as code says it
pub or-either : (a b : Option Fault) → option_or a b ≡ either a b
or-either (Some fault) b = refl
or-either None b = refl

-- a fault of this kind at this place
abbrev pub fault_at : FaultKind → Place → Option Fault
fault_at kind place = Some (record { kind = kind; place = place })

-- the first fault of findings one after another
pub first_of-append : (kind : FaultKind) (a b : List Finding)
    → first_of kind (a ++ b) ≡ option_or (first_of kind a) (first_of kind b)
first_of-append kind [] b = refl
first_of-append kind (finding ∷ a) b = at finding.holds (first_of-append kind a b)
  where
    at : (holds : Bool) → first_of kind (a ++ b) ≡ option_or (first_of kind a) (first_of kind b)
        → (if holds then fault_at kind finding.place else first_of kind (a ++ b))
        ≡ option_or (if holds then fault_at kind finding.place else first_of kind a) (first_of kind b)
    at true rest = refl
    at false rest = rest

-- a finding before others
pub first_of-cons : (kind : FaultKind) (finding : Finding) (b : List Finding)
    → first_of kind (finding ∷ b) ≡ option_or (first_of kind (finding ∷ [])) (first_of kind b)
first_of-cons kind finding b = first_of-append kind (finding ∷ []) b

-- the first fault of two parts
pub of-parts : (kind : FaultKind) (whole a b : List Finding) (x y : Option Fault)
    → whole ≡ a ++ b → x ≡ first_of kind a → y ≡ first_of kind b → option_or x y ≡ first_of kind whole
of-parts kind whole a b x y is first second =
    ap (λ o. option_or o y) first ∙ ap (option_or (first_of kind a)) second ∙ sym (first_of-append kind a b)
    ∙ ap (first_of kind) (sym is)

-- the first fault of what an element gives
abbrev pub fault_in : {A : Type 0} → FaultKind → (A → List Finding) → A → Option Fault
fault_in kind f x = first_of kind (f x)

-- the first fault of parts is found part by part
pub first_of-flat_map : (kind : FaultKind) {A : Type 0} (f : A → List Finding) (xs : List A)
    → first_of kind (flat_map f xs) ≡ first_some (fault_in kind f) xs
first_of-flat_map kind f [] = refl
first_of-flat_map kind f (x ∷ xs) =
    first_of-append kind (f x) (flat_map f xs) ∙ ap (option_or (first_of kind (f x))) (first_of-flat_map kind f xs)

-- a loop over parts found the first fault of the whole, which begins with what was looked at before the loop
pub loop-found : (kind : FaultKind) {A : Type 0} (f : A → List Finding) (items xs : List A) (whole a : List Finding)
    (x before : Option Fault) (i : ℕ)
    → items ≡ xs → length items ≤ i → whole ≡ a ++ flat_map f xs → x ≡ first_of kind a
    → option_or before (first_some (fault_in kind f) (drop i items)) ≡ option_or x (first_some (fault_in kind f) items)
    → before ≡ first_of kind whole
loop-found kind f items xs whole a x before i same past is first so_far =
    loop-end (fault_in kind f) items i before (option_or x (first_some (fault_in kind f) items)) past so_far
    ∙ ap (λ l. option_or x (first_some (fault_in kind f) l)) same
    ∙ of-parts kind whole a (flat_map f xs) x (first_some (fault_in kind f) xs) is first
    (sym (first_of-flat_map kind f xs))

-- the parts of mapped elements
pub flat_map-map : {A B C : Type 0} (g : B → List C) (f : A → B) (xs : List A)
    → flat_map g (map f xs) ≡ flat_map (λ x. g (f x)) xs
flat_map-map g f [] = refl
flat_map-map g f (x ∷ xs) = ap (λ l. g (f x) ++ l) (flat_map-map g f xs)

-- the first fault of findings that elements give one each
pub first_of-map : (kind : FaultKind) {A : Type 0} (f : A → Finding) (xs : List A)
    → first_of kind (map f xs) ≡ first_some (λ x. first_of kind (f x ∷ [])) xs
first_of-map kind f [] = refl
first_of-map kind f (x ∷ xs) =
    first_of-cons kind (f x) (map f xs) ∙ ap (option_or (first_of kind (f x ∷ []))) (first_of-map kind f xs)
