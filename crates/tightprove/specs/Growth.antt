-- Spans of co-operands that are grown for a span of candidates.
use Rattle.std.specs.Prelude.{◌≡◌, ◌<◌, ◌≤◌, ◌⊎◌, ℕ, Bool, true, false, not, List, [], ◌∷◌, ◌++◌, length, slice_index_or, count_by}
use Rattle.span_model.specs.Columns.{Columns, empty, set_of}
use Rattle.span_model.specs.Span.{InSpan, Spans}
use Rattle.span_model.specs.Attack.{Product}
use Rattle.span_model.specs.Closure.{Step, IsChain, co_operands}
use Rattle.gf2_span.specs.Basis.{Basis, row_sets}
use Rattle.gf2_span.specs.Rows.{IsLast, LeadsNoMember}
use Rattle.tightprove.specs.Classes.{class_rows, IsPartner, AreClassesOf, IsClean, LeadsApart}
use Rattle.tightprove.specs.declared.class.Class.{Class}
use Rattle.tightprove.specs.declared.growth.Growth.{Growth}

-- the rows of all classes of these numbers
abbrev pub rows_of_all : List Class → List ℕ → List (Columns ℕ)
rows_of_all classes [] = []
rows_of_all classes (i ∷ more) = class_rows classes i ++ rows_of_all classes more

-- what the rows with the span have in common with the candidates lies within the span
abbrev pub MeetsWithin : (candidates rows span : List (Columns ℕ)) → Type 0
MeetsWithin candidates rows span = (v : Columns ℕ) → InSpan candidates v → InSpan (rows ++ span) v → InSpan span v

-- the row is in the span, or its greatest column is that of no member of the joint span
abbrev pub LeadsWithin : (span joint : List (Columns ℕ)) → (row : Columns ℕ) → Type 0
LeadsWithin span joint row = InSpan span row ⊎ ((c : ℕ) → IsLast row c → LeadsNoMember joint c)

-- the span holds the co-operand of each step whose operand meets, with the span, the candidates outside the span
abbrev pub IsHull : List Class → (candidates span : List (Columns ℕ)) → Type 0
IsHull classes candidates span =
    (i j : ℕ) → IsPartner classes i j → Spans span (class_rows classes j) ⊎ MeetsWithin candidates (class_rows classes i) span

-- each of the candidates reaches steps whose co-operands span the span
pub record ReachAll (products : List (Product ℕ)) (candidates span : List (Columns ℕ)) : Type 0 where
  pub steps : List Step
  pub reached : (v : Columns ℕ) → InSpan candidates v → IsChain products v steps
  pub spanned : Spans (co_operands products steps) span

-- likewise, of products that have these classes
abbrev pub IsGrown : List Class → (candidates span : List (Columns ℕ)) → Type 0
IsGrown classes candidates span = (products : List (Product ℕ)) → AreClassesOf products classes → ReachAll products candidates span

-- one of the rows is not in the span of the others
abbrev pub HasRowOutside : List (List Bool) → List (Columns ℕ) → Type 0
HasRowOutside rows others = (k : ℕ) × (k < length rows) × ¬ InSpan others (set_of (slice_index_or rows k []))

-- the span holds the co-operand of each step whose operand holds, with the span, all the candidates
abbrev pub IsSaturated : List Class → Basis → List (Columns ℕ) → Type 0
IsSaturated classes candidates span =
    (i j : ℕ) → IsPartner classes i j → Spans span (class_rows classes j) ⊎ HasRowOutside candidates.rows (class_rows classes i ++ span)

-- the span of this number; past the end one of no rows
abbrev pub span_at : List Basis → ℕ → Basis
span_at spans n = slice_index_or spans n (record { columns = 0; rows = [] })

-- spans of so many columns, with no leak in any of them
pub record AreKnown (classes : List Class) (count : ℕ) (spans : List Basis) : Type 0 where
  pub columns : (n : ℕ) → n < length spans → (span_at spans n).columns ≡ count
  pub clean : (n : ℕ) → n < length spans → IsClean classes (row_sets (span_at spans n))

-- each of the candidates that the rows hold with the span is empty or in one of the pieces
abbrev pub IsInPieces : (candidates : Basis) (span : List (Columns ℕ)) (pieces : List Basis) (rows : List (Columns ℕ)) → Type 0
IsInPieces candidates span pieces rows =
    (v : Columns ℕ) → InSpan (row_sets candidates) v → InSpan (rows ++ span) v
    → (v ≡ empty) ⊎ ((n : ℕ) × (n < length pieces) × InSpan (row_sets (span_at pieces n)) v)

-- a growing span of co-operands, a span whose members lead none of its members and that holds the candidates together with it, and the classes
-- whose partners it has taken
pub record IsGrowth (classes : List Class) (candidates : Basis) (growth : Growth) : Type 0 where
  pub columns : growth.span.columns ≡ candidates.columns
  pub rest_columns : growth.rest.columns ≡ candidates.columns
  pub flags : length growth.taken ≡ length classes
  pub candidates_in : Spans (row_sets growth.rest ++ row_sets growth.span) (row_sets candidates)
  pub apart : LeadsApart (row_sets growth.rest) (row_sets growth.span)
  pub taken : (i j : ℕ) → slice_index_or growth.taken i false ≡ true → IsPartner classes i j → Spans (row_sets growth.span) (class_rows classes j)

-- class i is taken, or has with the span no candidates in common outside the span
abbrev pub MeetsNoMore : List Class → Basis → Growth → ℕ → Type 0
MeetsNoMore classes candidates growth i =
    (slice_index_or growth.taken i false ≡ true) ⊎ MeetsWithin (row_sets candidates) (class_rows classes i) (row_sets growth.span)

-- class i is taken, or does not hold with the span all the candidates
abbrev pub HoldsNoMore : List Class → Basis → Growth → ℕ → Type 0
HoldsNoMore classes candidates growth i =
    (slice_index_or growth.taken i false ≡ true) ⊎ HasRowOutside candidates.rows (class_rows classes i ++ row_sets growth.span)

-- how many classes are not taken
abbrev pub left_over : Growth → ℕ
left_over growth = count_by not growth.taken

-- the pieces: proper parts of the candidates, at most one for each class. Each of the candidates that an operand holds with the span is empty
-- or in one of the pieces, where the operand is that of a step whose co-operand is not in the span
pub record ArePieces (classes : List Class) (candidates : Basis) (span : List (Columns ℕ)) (pieces : List Basis) : Type 0 where
  pub few : length pieces ≤ length classes
  pub columns : (n : ℕ) → n < length pieces → (span_at pieces n).columns ≡ candidates.columns
  pub proper : (n : ℕ) → n < length pieces → length (span_at pieces n).rows < length candidates.rows
  pub parts : (i j : ℕ) → IsPartner classes i j → Spans span (class_rows classes j) ⊎ IsInPieces candidates span pieces (class_rows classes i)
