-- The laws of spans, for sets of columns of any kind.
use Rattle.std.specs.Prelude.{◌≡◌, ◌≤◌, ◌⊎◌, ℕ, false, List, [], ◌∷◌, ◌++◌, length, All}
use Rattle.span_model.specs.Columns.{Columns, empty, ◌△◌}
use Rattle.span_model.specs.Span.{InSpan, Spans, SameSpan, IsIndependent, IsSum, HasRank}

-- the empty set, each row, and the symmetric difference of two members are in the span
pub record MembersAndSums (C : Type 0) : Type 0 where
  pub empty_set : (rows : List (Columns C)) → InSpan rows empty
  pub rows : (rows : List (Columns C)) → All (InSpan rows) rows
  pub sums : (rows : List (Columns C)) (v w : Columns C) → InSpan rows v → InSpan rows w → InSpan rows (v △ w)

-- rows that are in the span of other rows span no more than these; more rows in front or behind span no less;
-- and the rows of two lists span together the symmetric differences of a member of each
pub record SpansGrow (C : Type 0) : Type 0 where
  pub members : (rows less : List (Columns C)) → All (InSpan rows) less → Spans rows less
  pub behind : (rows more : List (Columns C)) → Spans (rows ++ more) rows
  pub in_front : (more rows : List (Columns C)) → Spans (more ++ rows) rows
  pub together : (a b : List (Columns C)) → IsSum (a ++ b) a b

-- what rows span of rows, they span of what these span
abbrev pub SpansFollow : Type 0 → Type 0
SpansFollow C = (a b c : List (Columns C)) → Spans a b → Spans b c → Spans a c

-- a set in the span of rows with one more row is in the span of the rows, or can take the place of that row
abbrev pub RowsExchange : Type 0 → Type 0
RowsExchange C =
    (row : Columns C) (rows : List (Columns C)) (v : Columns C) → InSpan (row ∷ rows) v
    → InSpan rows v ⊎ (InSpan rows (v △ row) × InSpan (v ∷ rows) row)

-- an independent list in the span of rows is no longer than these; two independent lists with one span are as long, so the rank of rows is one
-- number; a set outside the span of an independent list can be added at either end of it; and the list of no rows is independent
pub record RankIsLength (C : Type 0) : Type 0 where
  pub at_most : (independent rows : List (Columns C)) → IsIndependent independent → Spans rows independent → length independent ≤ length rows
  pub same : (a b : List (Columns C)) → IsIndependent a → IsIndependent b → SameSpan a b → length a ≡ length b
  pub one_rank : (rows : List (Columns C)) (m n : ℕ) → HasRank rows m → HasRank rows n → m ≡ n
  pub in_front : (rows : List (Columns C)) (v : Columns C) → IsIndependent rows → ¬ InSpan rows v → IsIndependent (v ∷ rows)
  pub behind : (rows : List (Columns C)) (v : Columns C) → IsIndependent rows → ¬ InSpan rows v → IsIndependent (rows ++ v ∷ [])
  pub empty_list : IsIndependent {C = C} []

-- an independent list of rows over the columns below n has at most n rows
abbrev pub AtMostAsColumns : Type 0
AtMostAsColumns =
    (n : ℕ) (rows : List (Columns ℕ)) → All (λ row. (c : ℕ) → n ≤ c → row c ≡ false) rows → IsIndependent rows → length rows ≤ n
