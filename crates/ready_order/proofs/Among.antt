-- Facts about lists of numbers: membership, and what holds of each.
use Rattle.std.proofs.Common.{◌≡◌, ◌<◌, ◌≤◌, ◌+◌, ◌⊎◌, inl, inr, ℕ, zero, suc, Bool, true, false, ◌||◌, List, [], ◌∷◌, ◌++◌, refl, sym, ap, ◌∙◌, subst, arith}
use Rattle.std.specs.Prelude.{nat_eq}
use Rattle.std.specs.List.{list_all, range_with_len}
use Rattle.std.proofs.Math.Path.{fun_ext}
use Rattle.std.proofs.lemmas.Bool.{eqb-true, eq-eqb, and_parts, and_from, or_cases}
use Rattle.std.proofs.lemmas.List.Folds.{list_any-append}
use Rattle.ready_order.specs.Numbered.{is_one_of}

-- false is not true
pub false_true {ℓ} : {A : Type ℓ} → false ≡ true → A
false_true e = absurd (subst (λ (b : Bool). elim b as (λ _. Type 0) [ true ↦ ⊥ | false ↦ Unit {0} ]) e tt)

pub or_left : (a b : Bool) → a ≡ true → (a || b) ≡ true
or_left true b e = refl
or_left false b e = false_true e

pub or_right : (a b : Bool) → b ≡ true → (a || b) ≡ true
or_right true b e = refl
or_right false b e = e

pub or_false : (a : Bool) → (a || false) ≡ a
or_false true = refl
or_false false = refl

-- two tests of which each makes the other true are equal
pub same_tests : (a b : Bool) → (a ≡ true → b ≡ true) → (b ≡ true → a ≡ true) → a ≡ b
same_tests true b f g = sym (f refl)
same_tests false true f g = g refl
same_tests false false f g = refl

-- a test that is not true is false
pub is_false : (a : Bool) → (a ≡ true → ⊥) → a ≡ false
is_false true f = absurd (f refl)
is_false false f = refl

pub one_of_first : (x : ℕ) (xs : List ℕ) → is_one_of (x ∷ xs) x ≡ true
one_of_first x xs = or_left (nat_eq x x) (is_one_of xs x) (eq-eqb x x refl)

pub one_of_later : (x : ℕ) (xs : List ℕ) (c : ℕ) → is_one_of xs c ≡ true → is_one_of (x ∷ xs) c ≡ true
one_of_later x xs c m = or_right (nat_eq c x) (is_one_of xs c) m

pub one_of-append : (a b : List ℕ) (c : ℕ) → is_one_of (a ++ b) c ≡ (is_one_of a c || is_one_of b c)
one_of-append a b c = list_any-append (nat_eq c) a b

pub one_of_left : (a b : List ℕ) (c : ℕ) → is_one_of a c ≡ true → is_one_of (a ++ b) c ≡ true
one_of_left a b c m = one_of-append a b c ∙ or_left (is_one_of a c) (is_one_of b c) m

pub one_of_right : (a b : List ℕ) (c : ℕ) → is_one_of b c ≡ true → is_one_of (a ++ b) c ≡ true
one_of_right a b c m = one_of-append a b c ∙ or_right (is_one_of a c) (is_one_of b c) m

pub one_of_cases : (a b : List ℕ) (c : ℕ) → is_one_of (a ++ b) c ≡ true → (is_one_of a c ≡ true) ⊎ (is_one_of b c ≡ true)
one_of_cases a b c m = or_cases (is_one_of a c) (is_one_of b c) (sym (one_of-append a b c) ∙ m)

-- each number of a list is among another
abbrev pub AreAmong : List ℕ → List ℕ → Type 0
AreAmong a b = (c : ℕ) → is_one_of a c ≡ true → is_one_of b c ≡ true

-- each number of a list is below a bound
abbrev pub AllBelow : ℕ → List ℕ → Type 0
AllBelow n cells = (c : ℕ) → is_one_of cells c ≡ true → c < n

pub among_append : (a b d : List ℕ) → AreAmong a d → AreAmong b d → AreAmong (a ++ b) d
among_append a b d f g c m = elim (one_of_cases a b c m) [ inl l ↦ f c l | inr r ↦ g c r ]

-- what is all among some numbers is all among more
pub all_among : (a b : List ℕ) → AreAmong a b → (cells : List ℕ) → list_all (is_one_of a) cells ≡ true → list_all (is_one_of b) cells ≡ true
all_among a b more [] e = refl
all_among a b more (c ∷ cells) e =
    let parts = and_parts (is_one_of a c) (list_all (is_one_of a) cells) e in
    and_from (is_one_of b c) (list_all (is_one_of b) cells) (more c parts.0) (all_among a b more cells parts.1)

-- two tests that agree everywhere hold of the same lists
pub all_same : (p q : ℕ → Bool) → ((c : ℕ) → p c ≡ q c) → (cells : List ℕ) → list_all p cells ≡ list_all q cells
all_same p q same cells = ap (λ (t : ℕ → Bool). list_all t cells) (fun_ext same)

-- the numbers from one on
pub one_of_range : (a n c : ℕ) → is_one_of (range_with_len a n) c ≡ true → (a ≤ c) × (c < a + n)
one_of_range a zero c m = false_true m
one_of_range a (suc n) c m = elim (or_cases (nat_eq c a) (is_one_of (range_with_len (a + 1) n) c) m) [
  | inl first ↦ (let e : c ≡ a = eqb-true c a first in (omega arith, omega arith))
  | inr later ↦ (let more = one_of_range (a + 1) n c later in (omega (arith, more.0), omega (arith, more.1)))
]

pub in_range : (a n c : ℕ) → a ≤ c → c < a + n → is_one_of (range_with_len a n) c ≡ true
in_range a zero c low high = absurd (omega (arith, low, high))
in_range a (suc n) c low high = at_first (nat_eq c a) refl (λ more. in_range (a + 1) n c more (omega (arith, high)))
  where
    at_first : (b : Bool) → nat_eq c a ≡ b → (a + 1 ≤ c → is_one_of (range_with_len (a + 1) n) c ≡ true)
        → (b || is_one_of (range_with_len (a + 1) n) c) ≡ true
    at_first true e later = refl
    at_first false e later =
        let other : c ≡ a → ⊥ = λ same. false_true (sym e ∙ eq-eqb c a same) in
        later (omega (arith, low, other))
