-- A sum over distinct numbers of a list is within the sum of the list.
use Rattle.std.proofs.Common.{◌≡◌, ◌+◌, ◌≤◌, ℕ, zero, suc, Bool, true, false, ◌||◌, List, [], ◌∷◌, get_or, refl, sym, ap, ◌∙◌, arith}
use Rattle.std.proofs.lemmas.Bool.{eq-eqb}
use Rattle.std.specs.Prelude.{nat_eq}
use Rattle.usuba_model.proofs.CellLemmas.{false_true}
use Rattle.ready_order.specs.Numbered.{is_one_of}
use Rattle.ready_order.specs.Order.{AreDistinct}

-- the sum of a list
abbrev pub total : List ℕ → ℕ
total [] = 0
total (x ∷ xs) = x + total xs

-- the sum of those at some numbers
abbrev pub picked : List ℕ → List ℕ → ℕ
picked xs [] = 0
picked xs (k ∷ ks) = get_or xs k 0 + picked xs ks

-- the list with 0 at a number
abbrev zeroed : List ℕ → ℕ → List ℕ
zeroed [] k = []
zeroed (x ∷ xs) zero = 0 ∷ xs
zeroed (x ∷ xs) (suc k) = x ∷ zeroed xs k

zeroed_total : (xs : List ℕ) (k : ℕ) → get_or xs k 0 + total (zeroed xs k) ≡ total xs
zeroed_total [] k = omega arith
zeroed_total (x ∷ xs) zero = omega arith
zeroed_total (x ∷ xs) (suc k) = let later = zeroed_total xs k in omega (arith, later)

zeroed_other : (xs : List ℕ) (k j : ℕ) → (k ≡ j → ⊥) → get_or (zeroed xs k) j 0 ≡ get_or xs j 0
zeroed_other [] k j differs = refl
zeroed_other (x ∷ xs) zero zero differs = absurd (differs refl)
zeroed_other (x ∷ xs) zero (suc j) differs = refl
zeroed_other (x ∷ xs) (suc k) zero differs = refl
zeroed_other (x ∷ xs) (suc k) (suc j) differs = zeroed_other xs k j (λ e. differs (ap suc e))

neither : (p q : Bool) → (p || q) ≡ false → (p ≡ false) × (q ≡ false)
neither true q e = false_true (sym e)
neither false q e = (refl, e)

picked_zeroed : (xs : List ℕ) (k : ℕ) (ks : List ℕ) → is_one_of ks k ≡ false → picked (zeroed xs k) ks ≡ picked xs ks
picked_zeroed xs k [] e = refl
picked_zeroed xs k (j ∷ ks) e =
    let parts = neither (nat_eq k j) (is_one_of ks k) e in
    let here = zeroed_other xs k j (λ e. false_true (sym parts.0 ∙ eq-eqb k j e)) in
    let later = picked_zeroed xs k ks parts.1 in omega (arith, here, later)

-- each number is picked once at most
pub picked_within : (xs ks : List ℕ) → AreDistinct ks → picked xs ks ≤ total xs
picked_within xs [] distinct = omega arith
picked_within xs (k ∷ ks) distinct =
    let same = picked_zeroed xs k ks distinct.0 in
    let later = picked_within (zeroed xs k) ks distinct.1 in
    let sum = zeroed_total xs k in omega (arith, same, later, sum)
