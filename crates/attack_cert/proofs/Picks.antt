-- The numbers of picked groups, and lists that rise.
use Rattle.std.proofs.Common.{◌≡◌, ◌≢◌, ◌<◌, ◌≤◌, ◌+◌, ◌⊎◌, inl, inr, ℕ, zero, suc, true, false, Bool, List, [], ◌∷◌, ◌++◌, length, map, get_or, refl, sym, ap, ◌∙◌, subst, arith, All}
use native.Mathlib.Nat.{le_of_suc-le-suc}
use Rattle.std.specs.List.Sorted.{IsStrictlyIncreasing}
use Rattle.std.proofs.lemmas.Bool.{cases_lt}
use Rattle.std.proofs.lemmas.List.{append_assoc, length-append, get_or_at}
use Rattle.span_model.specs.Columns.{Columns}
use Rattle.span_select.specs.Selection.{rows_of, chosen_rows, numbers_from, numbers_of}

pub same_or_not : (a b : ℕ) → (a ≡ b) ⊎ (a ≢ b)
same_or_not a b = elim (cases_lt a b) [
  | inl lt ↦ inr (λ e. absurd (omega arith))
  | inr ge ↦ elim (cases_lt b a) [ inl lt ↦ inr (λ e. absurd (omega arith)) | inr le ↦ inl (omega arith) ]
]

-- each number is below all later ones
abbrev pub IsRising : List ℕ → Type 0
IsRising xs = (i j : ℕ) → i < j → j < length xs → get_or xs i 0 < get_or xs j 0

pub rising_from : (xs : List ℕ) → IsStrictlyIncreasing xs → IsRising xs
rising_from xs inc i zero lt h = absurd (omega arith)
rising_from xs inc i (suc j) lt h =
    let next : j + 1 ≡ suc j = omega arith in
    let step : get_or xs j 0 < get_or xs (suc j) 0 = subst (λ (n : ℕ). get_or xs j 0 < get_or xs n 0) next (inc j (omega arith)) in
    elim (cases_lt i j) [
      | inl less ↦ (let before = rising_from xs inc i j less (omega arith) in omega arith)
      | inr more ↦ (let e : j ≡ i = omega arith in subst (λ (n : ℕ). get_or xs n 0 < get_or xs (suc j) 0) e step)
    ]

pub rising_increases : (xs : List ℕ) → IsRising xs → IsStrictlyIncreasing xs
rising_increases xs rise k h = rise k (k + 1) (omega arith) h

pub rising_head : (x : ℕ) (xs : List ℕ) → All (λ y. x < y) xs → IsRising xs → IsRising (x ∷ xs)
rising_head x xs more rise i zero lt h = absurd (omega arith)
rising_head x xs more rise zero (suc j) lt h = more j 0 (le_of_suc-le-suc h)
rising_head x xs more rise (suc i) (suc j) lt h = rise i j (le_of_suc-le-suc lt) (le_of_suc-le-suc h)

-- a place stands once in a rising list
pub rising_once : (xs : List ℕ) → IsRising xs → (i j : ℕ) → i < length xs → j < length xs → get_or xs i 0 ≡ get_or xs j 0 → i ≡ j
rising_once xs rise i j hi hj e = elim (cases_lt i j) [
  | inl lt ↦ (let r = rise i j lt hj in absurd (omega arith))
  | inr ge ↦ elim (cases_lt j i) [ inl lt ↦ (let r = rise j i lt hi in absurd (omega arith)) | inr le ↦ omega arith ]
]

-- an earlier place has a lower number
pub rising_back : (xs : List ℕ) → IsRising xs → (i j : ℕ) → i < length xs → j < length xs → get_or xs i 0 < get_or xs j 0 → i < j
rising_back xs rise i j hi hj lt = elim (cases_lt i j) [
  | inl less ↦ less
  | inr ge ↦ elim (cases_lt j i) [
    | inl less ↦ (let r = rise j i less hi in absurd (omega arith))
    | inr le ↦ (let e : i ≡ j = omega arith in let same = ap (λ (n : ℕ). get_or xs n 0) e in absurd (omega arith))
  ]
]

-- a rising list below a bound is no longer than it
pub rising_at_least : (xs : List ℕ) → IsRising xs → (k : ℕ) → k < length xs → k ≤ get_or xs k 0
rising_at_least xs rise zero h = omega arith
rising_at_least xs rise (suc k) h =
    let before = rising_at_least xs rise k (omega arith) in
    let step = rise k (suc k) (omega arith) h in
    omega arith

pub rising_short : (xs : List ℕ) (n : ℕ) → IsRising xs → All (λ x. x < n) xs → length xs ≤ n
rising_short [] n rise below = omega arith
rising_short (x ∷ xs) n rise below =
    let last = rising_at_least (x ∷ xs) rise (length xs) (omega arith) in
    let lt = below (length xs) 0 (omega arith) in
    omega arith

-- the numbers of picked groups
pub numbers_bound : (n : ℕ) (picks : List Bool) → All (λ k. (n ≤ k) × (k < n + length picks)) (numbers_from n picks)
numbers_bound n [] k d h = absurd (omega arith)
numbers_bound n (true ∷ picks) zero d h = (omega arith, omega arith)
numbers_bound n (true ∷ picks) (suc k) d h = let b = numbers_bound (suc n) picks k d (le_of_suc-le-suc h) in (omega (arith, b.0), omega (arith, b.1))
numbers_bound n (false ∷ picks) k d h = let b = numbers_bound (suc n) picks k d h in (omega (arith, b.0), omega (arith, b.1))

pub numbers_within : (picks : List Bool) → All (λ k. k < length picks) (numbers_of picks)
numbers_within picks k d h = let b = (numbers_bound 0 picks k d h).1 in omega (arith, b)

pub numbers_rise : (n : ℕ) (picks : List Bool) → IsRising (numbers_from n picks)
numbers_rise n [] i j lt h = absurd (omega arith)
numbers_rise n (true ∷ picks) i j lt h =
    rising_head n (numbers_from (suc n) picks) (λ k d h. let b = (numbers_bound (suc n) picks k d h).0 in omega (arith, b)) (numbers_rise (suc n) picks) i j lt h
numbers_rise n (false ∷ picks) i j lt h = numbers_rise (suc n) picks i j lt h

module _ {C : Type 0} where
  -- the rows of the groups of these numbers
  abbrev pub numbered_rows : List (List (Columns C)) → List ℕ → List (Columns C)
  numbered_rows groups numbers = rows_of (map (λ k. get_or groups k []) numbers)

  -- one group goes over to the front
  picked_next : (front : List (List (Columns C))) (group : List (Columns C)) (groups : List (List (Columns C))) (picks : List Bool)
      → numbered_rows ((front ++ group ∷ []) ++ groups) (numbers_from (length (front ++ group ∷ [])) picks) ≡ chosen_rows picks groups
      → numbered_rows (front ++ group ∷ groups) (numbers_from (suc (length front)) picks) ≡ chosen_rows picks groups
  picked_next front group groups picks same =
      let many : length (front ++ group ∷ []) ≡ suc (length front) = omega (arith, length-append front (group ∷ [])) in
      ap (λ (gs : List (List (Columns C))). numbered_rows gs (numbers_from (suc (length front)) picks)) (sym (append_assoc front (group ∷ []) groups))
      ∙ ap (λ (n : ℕ). numbered_rows ((front ++ group ∷ []) ++ groups) (numbers_from n picks)) (sym many)
      ∙ same

  picked_from : (front groups : List (List (Columns C))) (picks : List Bool) → length picks ≡ length groups
      → numbered_rows (front ++ groups) (numbers_from (length front) picks) ≡ chosen_rows picks groups
  picked_from front groups [] e = refl
  picked_from front [] (pick ∷ picks) e = absurd (omega arith)
  picked_from front (group ∷ groups) (true ∷ picks) e =
      ap (λ (rows : List (Columns C)). rows ++ numbered_rows (front ++ group ∷ groups) (numbers_from (suc (length front)) picks)) (get_or_at front group groups [] (length front) refl)
      ∙ ap (λ (rows : List (Columns C)). group ++ rows) (picked_next front group groups picks (picked_from (front ++ group ∷ []) groups picks (omega arith)))
  picked_from front (group ∷ groups) (false ∷ picks) e = picked_next front group groups picks (picked_from (front ++ group ∷ []) groups picks (omega arith))

  pub picked_rows : (groups : List (List (Columns C))) (picks : List Bool) → length picks ≡ length groups
      → numbered_rows groups (numbers_of picks) ≡ chosen_rows picks groups
  picked_rows groups picks e = picked_from [] groups picks e
