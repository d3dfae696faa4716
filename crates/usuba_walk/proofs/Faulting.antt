-- The first fault and the count of a walk of two parts.
use Rattle.std.proofs.Common.{◌≡◌, ℕ, ◌+◌, ◌<◌, ◌≤◌, Bool, true, false, List, [], ◌∷◌, ◌++◌, Option, Some, None, refl, ap, ◌∙◌, arith}
use Rattle.std.proofs.lemmas.Bool.{le-ltb, lt-ltb}
use Rattle.std.specs.Prelude.{nat_lt, if◌then◌else◌}
use Rattle.tor_edge.specs.declared.place.Place.{Place}
use Rattle.usuba_model.specs.declared.fault.Fault.{Fault}
use Rattle.usuba_model.specs.declared.fault.FaultKind.{FaultKind}
use Rattle.usuba_model.specs.declared.fault.FaultKind.TheVariants.{TooManyOps}
use Rattle.usuba_model.specs.Faults.{either}
use Rattle.usuba_model.specs.Walk.{Step, most_operations, step_fault, walk_fault, count_of}

-- a step's own fault and its count come before what is later
step-either : (place : Place) (own : Option FaultKind) (count : ℕ) (a b : Option Fault)
    → step_fault place own count (either a b) ≡ either (step_fault place own count a) b
step-either place (Some kind) count a b = refl
step-either place None count a b = past (nat_lt most_operations count)
  where
    past : (many : Bool)
        → (if many then Some (record { kind = TooManyOps; place = place }) else either a b)
        ≡ either (if many then Some (record { kind = TooManyOps; place = place }) else a) b
    past true = refl
    past false = refl

-- the first fault of two parts is that of the first part, or else that of the second
pub fault-append : (count : ℕ) (a b : List Step)
    → walk_fault count (a ++ b) ≡ either (walk_fault count a) (walk_fault (count + count_of a) b)
fault-append count [] b =
    let same : count ≡ count + 0 = omega arith in
    ap (λ n. walk_fault n b) same
fault-append count (step ∷ a) b =
    let next = count + step.adds in
    let same : next + count_of a ≡ count + (step.adds + count_of a) = omega arith in
    ap (step_fault step.place step.fault next) (fault-append next a b)
    ∙ step-either step.place step.fault next (walk_fault next a) (walk_fault (next + count_of a) b)
    ∙ ap (λ n. either (walk_fault count (step ∷ a)) (walk_fault n b)) same

-- the count of two parts is the sum of theirs
pub count_of-append : (a b : List Step) → count_of (a ++ b) ≡ count_of a + count_of b
count_of-append [] b = omega arith
count_of-append (step ∷ a) b =
    let rest = count_of-append a b in
    omega (arith, rest)

-- a fault of the first part is the fault of both
pub fault-first : (count : ℕ) (a b : List Step) (fault : Fault) → walk_fault count a ≡ Some fault → walk_fault count (a ++ b) ≡ Some fault
fault-first count a b fault is = fault-append count a b ∙ ap (λ f. either f (walk_fault (count + count_of a) b)) is

-- after a first part without a fault the second part decides
pub fault-second : (count : ℕ) (a b : List Step) → walk_fault count a ≡ None → walk_fault count (a ++ b) ≡ walk_fault (count + count_of a) b
fault-second count a b is = fault-append count a b ∙ ap (λ f. either f (walk_fault (count + count_of a) b)) is

-- a step without a fault of its own, after which the count is within its limit, has no fault
pub step-within : (count : ℕ) (step : Step) → step.fault ≡ None → count + step.adds ≤ most_operations → walk_fault count (step ∷ []) ≡ None
step-within count step clean few =
    ap (λ own. step_fault step.place own (count + step.adds) None) clean
    ∙ ap (λ b. if b then Some (record { kind = TooManyOps; place = step.place }) else None) (le-ltb most_operations (count + step.adds) few)

-- a step without a fault of its own, after which the count is past its limit, is the fault
pub step-past : (count : ℕ) (step : Step) → step.fault ≡ None → most_operations < count + step.adds
    → walk_fault count (step ∷ []) ≡ Some (record { kind = TooManyOps; place = step.place })
step-past count step clean many =
    ap (λ own. step_fault step.place own (count + step.adds) None) clean
    ∙ ap (λ b. if b then Some (record { kind = TooManyOps; place = step.place }) else None) (lt-ltb most_operations (count + step.adds) many)

-- a step's own fault is the fault
pub step-own : (count : ℕ) (step : Step) (kind : FaultKind) → step.fault ≡ Some kind → walk_fault count (step ∷ []) ≡ Some (record { kind = kind; place = step.place })
step-own count step kind own = ap (λ f. step_fault step.place f (count + step.adds) None) own
