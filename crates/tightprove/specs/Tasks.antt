-- The tasks of a search that are still to be done.
use Rattle.std.specs.Prelude.{◌≡◌, ◌<◌, ◌≤◌, ◌+◌, ◌^◌, ◌⊎◌, ℕ, List, [], ◌∷◌, length, ⊤}
use Rattle.span_model.specs.Columns.{Columns, set_of}
use Rattle.span_model.specs.Span.{InSpan}
use Rattle.span_model.specs.Attack.{Product}
use Rattle.gf2_span.specs.Basis.{Basis, row_sets}
use Rattle.tightprove.specs.Classes.{AreClassesOf, Leaks, IsLeakOf}
use Rattle.tightprove.specs.Growth.{span_at}
use Rattle.tightprove.specs.declared.class.Class.{Class}
use Rattle.tightprove.specs.declared.tasks.Task.{Task}
use Rattle.tightprove.specs.declared.tasks.Task.TheVariants.{Search, Record}
use Rattle.tightprove.specs.declared.split.Split.{Split}
use Rattle.tightprove.specs.declared.split.Split.TheVariants.{Found, Pieces}

-- a task to search each of the spans
abbrev pub searches : List Basis → List Task
searches [] = []
searches (span ∷ spans) = Search span ∷ searches spans

-- the set is in a span that is still to be searched
abbrev pub IsPending : List Task → Columns ℕ → Type 0
IsPending [] v = ⊥
IsPending (Search span ∷ tasks) v = InSpan (row_sets span) v ⊎ IsPending tasks v
IsPending (Record span ∷ tasks) v = IsPending tasks v

-- each member of the span of the rows that is a leak of products with these classes is in a span that is still to be searched
abbrev pub LeaksArePending : List Class → List (Columns ℕ) → List Task → Type 0
LeaksArePending classes rows tasks =
    (products : List (Product ℕ)) → AreClassesOf products classes → (v : Columns ℕ) → InSpan rows v → Leaks products v → IsPending tasks v

-- the tasks are done from the last one on. The leaks in a span that is to be recorded are in spans that are searched before
abbrev pub AreInOrder : List Class → List Task → Type 0
AreInOrder classes [] = ⊤
AreInOrder classes (Search span ∷ tasks) = AreInOrder classes tasks
AreInOrder classes (Record span ∷ tasks) = LeaksArePending classes (row_sets span) tasks × AreInOrder classes tasks

-- the spans of the tasks have so many columns
abbrev pub HaveColumns : ℕ → List Task → Type 0
HaveColumns columns [] = ⊤
HaveColumns columns (Search span ∷ tasks) = (span.columns ≡ columns) × HaveColumns columns tasks
HaveColumns columns (Record span ∷ tasks) = (span.columns ≡ columns) × HaveColumns columns tasks

-- how much is left to do at most, where a span has at most so many pieces
abbrev pub work : ℕ → List Task → ℕ
work pieces [] = 0
work pieces (Search span ∷ tasks) = (pieces + 2) ^ (length span.rows + 1) + work pieces tasks
work pieces (Record span ∷ tasks) = 1 + work pieces tasks

-- the new tasks come of the old ones when the last of these is done: each leak that was pending still is, and there is less work left
pub record IsDone (classes : List Class) (count : ℕ) (old new : List Task) : Type 0 where
  pub columns : HaveColumns count new
  pub order : AreInOrder classes new
  pub pending : (rows : List (Columns ℕ)) → LeaksArePending classes rows old → LeaksArePending classes rows new
  pub less : work (length classes) new < work (length classes) old

-- spans of smaller rank than the candidates, at most one for each class, that hold all their leaks
pub record HoldLeaks (classes : List Class) (candidates : Basis) (pieces : List Basis) : Type 0 where
  pub few : length pieces ≤ length classes
  pub columns : (n : ℕ) → n < length pieces → (span_at pieces n).columns ≡ candidates.columns
  pub proper : (n : ℕ) → n < length pieces → length (span_at pieces n).rows < length candidates.rows
  pub leaks : (products : List (Product ℕ)) → AreClassesOf products classes → (v : Columns ℕ) → InSpan (row_sets candidates) v → Leaks products v
      → (n : ℕ) × (n < length pieces) × InSpan (row_sets (span_at pieces n)) v

-- what the search of one span of candidates gives: a leak, or pieces that hold all their leaks
abbrev pub IsSplitOf : List Class → Basis → Split → Type 0
IsSplitOf classes candidates (Found leak) = (length leak ≡ candidates.columns) × IsLeakOf classes (set_of leak)
IsSplitOf classes candidates (Pieces pieces) = HoldLeaks classes candidates pieces.items
