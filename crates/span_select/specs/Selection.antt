-- Selections of listed groups of rows, and the least selection whose rows, with rows of one's own, span a set of columns.
use Rattle.std.specs.Prelude.{◌≡◌, ◌<◌, ◌⊎◌, ℕ, suc, Bool, true, false, List, [], ◌∷◌, ◌++◌, length, slice_index_or}
use Rattle.span_model.specs.Columns.{Columns}
use Rattle.span_model.specs.Span.{InSpan}

-- the rows of all the groups
abbrev pub rows_of : {C : Type 0} → List (List (Columns C)) → List (Columns C)
rows_of [] = []
rows_of (group ∷ groups) = group ++ rows_of groups

-- the rows of the groups that are picked; a group that has no pick is not picked, a pick that has no group says nothing
abbrev pub chosen_rows : {C : Type 0} → List Bool → List (List (Columns C)) → List (Columns C)
chosen_rows [] groups = []
chosen_rows (pick ∷ picks) [] = []
chosen_rows (true ∷ picks) (group ∷ groups) = group ++ chosen_rows picks groups
chosen_rows (false ∷ picks) (group ∷ groups) = chosen_rows picks groups

-- of two different selections the lesser one is that without the last group that only one of them has
pub record IsLesser (less more : List Bool) : Type 0 where
  pub last : ℕ
  pub left_out : slice_index_or less last false ≡ false
  pub picked : slice_index_or more last false ≡ true
  pub same_after : (k : ℕ) → last < k → slice_index_or less k false ≡ slice_index_or more k false

-- the selection has a pick for each group, its rows with one's own span the set, and each other selection that does so is greater
pub record IsLeastSelection {C : Type 0} (own : List (Columns C)) (groups : List (List (Columns C))) (v : Columns C) (picks : List Bool) : Type 0 where
  pub count : length picks ≡ length groups
  pub spans : InSpan (own ++ chosen_rows picks groups) v
  pub least : (others : List Bool) → length others ≡ length groups → InSpan (own ++ chosen_rows others groups) v → (others ≡ picks) ⊎ IsLesser picks others

-- the numbers of the picked groups in rising order, where the first group has the number n
abbrev pub numbers_from : ℕ → List Bool → List ℕ
numbers_from n [] = []
numbers_from n (true ∷ picks) = n ∷ numbers_from (suc n) picks
numbers_from n (false ∷ picks) = numbers_from (suc n) picks

-- the numbers of the picked groups in rising order, where the groups are numbered from 0
abbrev pub numbers_of : List Bool → List ℕ
numbers_of picks = numbers_from 0 picks

-- these are the numbers, in rising order, of the groups of the least selection
abbrev pub AreLeastNumbers : {C : Type 0} → List (Columns C) → List (List (Columns C)) → Columns C → List ℕ → Type 0
AreLeastNumbers own groups v numbers = (picks : List Bool) × IsLeastSelection own groups v picks × (numbers ≡ numbers_of picks)
