-- The span of a list of rows, each a set of columns, by selections of rows.
use Rattle.std.specs.Prelude.{◌≡◌, ◌<◌, ◌↔◌, ℕ, Bool, true, false, List, [], ◌∷◌, length, slice_index_or}
use Rattle.span_model.specs.Columns.{Columns, empty, ◌△◌}

-- the symmetric difference of the rows that are picked; a row that has no pick is not picked, a pick that has no row says nothing
abbrev pub difference : {C : Type 0} → List Bool → List (Columns C) → Columns C
difference [] rows = empty
difference (pick ∷ picks) [] = empty
difference (true ∷ picks) (row ∷ rows) = row △ difference picks rows
difference (false ∷ picks) (row ∷ rows) = difference picks rows

-- the set is the symmetric difference of some selection of the rows
abbrev pub InSpan : {C : Type 0} → List (Columns C) → Columns C → Type 0
InSpan rows v = (picks : List Bool) × (difference picks rows ≡ v)

-- each set in the span of the rows `less` is in the span of the rows
abbrev pub Spans : {C : Type 0} → (rows less : List (Columns C)) → Type 0
Spans {C} rows less = (v : Columns C) → InSpan less v → InSpan rows v

-- the two lists of rows span the same sets
abbrev pub SameSpan : {C : Type 0} → (rows others : List (Columns C)) → Type 0
SameSpan {C} rows others = (v : Columns C) → InSpan rows v ↔ InSpan others v

-- a selection of the rows whose symmetric difference is empty picks none of them
abbrev pub IsIndependent : {C : Type 0} → List (Columns C) → Type 0
IsIndependent rows =
    (picks : List Bool) → difference picks rows ≡ empty → (k : ℕ) → k < length rows → slice_index_or picks k false ≡ false

-- an independent list with the same span as the rows has n rows
pub record HasRank {C : Type 0} (rows : List (Columns C)) (n : ℕ) : Type 0 where
  pub basis : List (Columns C)
  pub independent : IsIndependent basis
  pub same_span : SameSpan basis rows
  pub count : length basis ≡ n

-- `sum` spans exactly the symmetric differences of a set in the span of a and one in the span of b
abbrev pub IsSum : {C : Type 0} → (sum a b : List (Columns C)) → Type 0
IsSum {C} sum a b =
    (v : Columns C) → InSpan sum v ↔ ((x : Columns C) × (y : Columns C) × InSpan a x × InSpan b y × (x △ y ≡ v))

-- `meet` spans exactly the sets that are in the span of a and in the span of b
abbrev pub IsMeet : {C : Type 0} → (meet a b : List (Columns C)) → Type 0
IsMeet {C} meet a b = (v : Columns C) → InSpan meet v ↔ (InSpan a v × InSpan b v)
