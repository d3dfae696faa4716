-- How groups are kept. The word of a row has twice as many columns: the lower half tells of which basis rows the row is made, a column for each,
-- and the upper half has what is left of the row. The basis rows are the pushed rows that no earlier ones span, in their order.
use Rattle.std.specs.Prelude.{◌≡◌, ◌+◌, ◌-◌, ◌*◌, ◌^◌, ◌<◌, ◌≤◌, ◌==◌, ℕ, Bool, true, false, List, [], ◌∷◌, length, take, map, slice_index, slice_index_or, nat_lt, if◌then◌else◌, All, ⊤}
use Rattle.span_model.specs.Columns.{Columns, empty, sets_of, ◌△◌}
use Rattle.span_model.specs.Span.{InSpan, Spans}
use Rattle.gf2_span.specs.Rows.{IsLast}
use Rattle.span_select.specs.Selection.{rows_of}

-- the set of the one column
abbrev pub unit : ℕ → Columns ℕ
unit c column = column == c

-- the set with its columns moved up by n
abbrev pub raised : ℕ → Columns ℕ → Columns ℕ
raised n v column = if nat_lt column n then false else v (column - n)

-- the set holds no greatest column of a member of the span
abbrev pub IsReduced : List (Columns ℕ) → Columns ℕ → Type 0
IsReduced rows v = (w : Columns ℕ) (c : ℕ) → InSpan rows w → IsLast w c → v c ≡ false

-- the word stands for the row: they differ by a member of the span of the basis words
abbrev pub StandsFor : ℕ → List (Columns ℕ) → Columns ℕ → Columns ℕ → Type 0
StandsFor columns basis word row = InSpan basis (raised columns row △ word)

-- the word is made of basis rows of the groups with numbers below j
abbrev pub IsUpTo : List ℕ → ℕ → Columns ℕ → Type 0
IsUpTo owners j word = (c : ℕ) → word c ≡ true → (c < length owners) × (slice_index owners c < j)

-- Each basis word is a basis row in the upper half with its own column in the lower half, so a member of their span is settled by either half.
-- `owners` has the number of the group of each basis row.
pub record IsFrame (columns : ℕ) (basis : List (Columns ℕ)) (owners : List ℕ) : Type 0 where
  pub within : (w : Columns ℕ) → InSpan basis w → (c : ℕ) → 2 * columns ≤ c → w c ≡ false
  pub known : (w : Columns ℕ) → InSpan basis w → (c : ℕ) → length owners ≤ c → c < columns → w c ≡ false
  pub upper : (w : Columns ℕ) → InSpan basis w → ((c : ℕ) → columns ≤ c → w c ≡ false) → w ≡ empty
  pub lower : (w : Columns ℕ) → InSpan basis w → ((c : ℕ) → c < columns → w c ≡ false) → w ≡ empty
  pub rank : length basis ≡ length owners
  pub few : length owners ≤ columns
  pub rising : (i j : ℕ) → i ≤ j → j < length owners → slice_index owners i ≤ slice_index owners j

-- each basis row is of a group, and is spanned by the groups up to that one
pub record AreOwned (columns : ℕ) (groups : List (List (Columns ℕ))) (basis : List (Columns ℕ)) (owners : List ℕ) : Type 0 where
  pub in_groups : (i : ℕ) → i < length owners → slice_index owners i < length groups
  pub given : (i : ℕ) → i < length owners → (row : Columns ℕ) × InSpan (rows_of (take (slice_index owners i + 1) groups)) row × StandsFor columns basis (unit i) row

-- the words stand for the rows one by one, and are made of basis rows of the groups with numbers below j
abbrev pub AreWords : ℕ → List (Columns ℕ) → List ℕ → ℕ → List (Columns ℕ) → List (Columns ℕ) → Type 0
AreWords columns basis owners j [] [] = ⊤
AreWords columns basis owners j [] (word ∷ words) = ⊥
AreWords columns basis owners j (row ∷ rows) [] = ⊥
AreWords columns basis owners j (row ∷ rows) (word ∷ words) =
    StandsFor columns basis word row × IsUpTo owners j word × AreWords columns basis owners j rows words

-- More rows, of the group of this number, were taken in with their words: the span of the basis words has grown,
-- the new basis rows are of that group, and are spanned by these rows.
pub record TakesIn (columns group : ℕ) (basis : List (Columns ℕ)) (owners : List ℕ) (new_basis : List (Columns ℕ)) (new_owners : List ℕ) (rows words : List (Columns ℕ)) : Type 0 where
  pub grown : Spans new_basis basis
  pub worded : AreWords columns new_basis new_owners (group + 1) rows words
  pub more : length owners ≤ length new_owners
  pub old : (i : ℕ) → i < length owners → slice_index new_owners i ≡ slice_index owners i
  pub new : (i : ℕ) → length owners ≤ i → i < length new_owners → slice_index new_owners i ≡ group
  pub given : (i : ℕ) → length owners ≤ i → i < length new_owners → (row : Columns ℕ) × InSpan rows row × StandsFor columns new_basis (unit i) row

-- the groups, their words and the basis, as they are kept
pub record AreKept (columns : ℕ) (groups words : List (List (Columns ℕ))) (basis : List (Columns ℕ)) (owners : List ℕ) : Type 0 where
  pub frame : IsFrame columns basis owners
  pub owned : AreOwned columns groups basis owners
  pub as_many : length words ≡ length groups
  pub worded : (g : ℕ) → g < length groups → AreWords columns basis owners (g + 1) (slice_index_or groups g []) (slice_index_or words g [])

-- what holds of groups at any time; the rest holds unless memory ran out while a group was taken in
pub record IsKept (columns basis_columns : ℕ) (groups words : List (List (List Bool))) (basis : List (Columns ℕ)) (owners : List ℕ) (whole : Bool) : Type 0 where
  pub small : columns < 2 ^ 31
  pub basis_wide : basis_columns ≡ 2 * columns
  pub words_wide : (g : ℕ) → All (λ word. length word ≡ 2 * columns) (slice_index_or words g [])
  pub kept : whole ≡ true → AreKept columns (map sets_of groups) (map sets_of words) basis owners

-- the words span just what stands for members of the span of the rows, and all that is reduced
pub record IsLifted (columns : ℕ) (basis rows words : List (Columns ℕ)) : Type 0 where
  pub up : (row : Columns ℕ) → InSpan rows row → (word : Columns ℕ) × InSpan words word × StandsFor columns basis word row
  pub down : (word : Columns ℕ) → InSpan words word → (row : Columns ℕ) × InSpan rows row × StandsFor columns basis word row
  pub reduced : (word : Columns ℕ) → InSpan words word → IsReduced basis word
