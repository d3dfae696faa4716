-- The numbers of picked groups.
use Rattle.std.proofs.Common.{◌≡◌, ℕ, ◌+◌, ◌<◌, ◌≤◌, zero, suc, Bool, true, false, List, [], ◌∷◌, ◌++◌, length, get_or, map, All, refl, ap, ◌∙◌, subst, arith, suc-le-suc}
use native.Mathlib.Nat.{le_of_suc-le-suc}
use Rattle.std.specs.List.Sorted.{IsStrictlyIncreasing}
use Rattle.span_model.specs.Columns.{Columns}
use Rattle.span_select.specs.Selection.{rows_of, chosen_rows, numbers_from, numbers_of}

numbers_between : (n : ℕ) (picks : List Bool) (k d : ℕ) → k < length (numbers_from n picks) → (n ≤ get_or (numbers_from n picks) k d) × (get_or (numbers_from n picks) k d < n + length picks)
numbers_between n [] k d h = absurd (omega arith)
numbers_between n (true ∷ picks) zero d h = (omega arith, omega arith)
numbers_between n (true ∷ picks) (suc k) d h = let m = numbers_between (suc n) picks k d (le_of_suc-le-suc h) in (omega (arith, m.0), omega (arith, m.1))
numbers_between n (false ∷ picks) k d h = let m = numbers_between (suc n) picks k d h in (omega (arith, m.0), omega (arith, m.1))

numbers_rise : (n : ℕ) (picks : List Bool) (k : ℕ) → suc k < length (numbers_from n picks) → get_or (numbers_from n picks) k 0 < get_or (numbers_from n picks) (suc k) 0
numbers_rise n [] k h = absurd (omega arith)
numbers_rise n (true ∷ picks) zero h = let m = numbers_between (suc n) picks zero 0 (le_of_suc-le-suc h) in omega (arith, m.0)
numbers_rise n (true ∷ picks) (suc k) h = numbers_rise (suc n) picks k (le_of_suc-le-suc h)
numbers_rise n (false ∷ picks) k h = numbers_rise (suc n) picks k h

pub numbers_rising : (picks : List Bool) → IsStrictlyIncreasing (numbers_of picks)
numbers_rising picks k h =
    let e : suc k ≡ k + 1 = omega arith in
    let P : ℕ → Type 0 = λ i. get_or (numbers_of picks) k 0 < get_or (numbers_of picks) i 0 in
    subst P e (numbers_rise 0 picks k (omega arith))

pub numbers_within : (picks : List Bool) → All (λ k. k < length picks) (numbers_of picks)
numbers_within picks k d h = let m = numbers_between 0 picks k d h in omega (arith, m.1)

module _ {C : Type 0} where
  rows_from : (n : ℕ) (picks : List Bool) (groups : List (List (Columns C))) (at : ℕ → List (Columns C)) → ((i j : ℕ) → j ≡ n + i → i < length groups → at j ≡ get_or groups i [])
      → length picks ≡ length groups → rows_of (map at (numbers_from n picks)) ≡ chosen_rows picks groups
  rows_from n [] groups at is count = refl
  rows_from n (pick ∷ picks) [] at is count = absurd (omega arith)
  rows_from n (true ∷ picks) (group ∷ groups) at is count =
      ap (λ (x : List (Columns C)). x ++ rows_of (map at (numbers_from (suc n) picks))) (is 0 n (omega arith) (omega arith))
      ∙ ap (λ (x : List (Columns C)). group ++ x) (rows_from (suc n) picks groups at (λ i j e h. is (suc i) j (omega arith) (suc-le-suc h)) (omega arith))
  rows_from n (false ∷ picks) (group ∷ groups) at is count = rows_from (suc n) picks groups at (λ i j e h. is (suc i) j (omega arith) (suc-le-suc h)) (omega arith)

  pub rows_of_numbers : (picks : List Bool) (groups : List (List (Columns C))) → length picks ≡ length groups
      → rows_of (map (λ k. get_or groups k []) (numbers_of picks)) ≡ chosen_rows picks groups
  rows_of_numbers picks groups count = rows_from 0 picks groups (λ k. get_or groups k []) (λ i j e h. ap (λ k. get_or groups k []) (let f : j ≡ i = omega arith in f)) count
