-- The answers of the search.
use Rattle.std.proofs.Common.{◌≡◌, ◌≢◌, ◌⊎◌, ℕ, ◌<◌, ◌≤◌, Bool, true, false, List, [], ◌∷◌, length, get_or, ◌∙◌, subst, arith, MatchBool, MatchOption, Option, Some, None}
use Rattle.std.specs.List.{Contains}
use Rattle.std.proofs.lemmas.List.{get_or_default}
use Rattle.span_model.specs.Columns.{Columns, empty, sets_of}
use Rattle.span_model.specs.Span.{InSpan, Spans, SameSpan}
use Rattle.span_model.specs.AttackLaws.{LeaksAreClosed}
use Rattle.span_model.specs.Attack.{Product, IsLeak}
use Rattle.span_model.proofs.Members.{in_head, in_none}
use Rattle.gf2_span.specs.Basis.{Basis, row_sets}
use Rattle.tightprove.specs.Classes.{class_rows, AreClassesOf, MeetEmpty, IsClean, KeepsLeaks}
use Rattle.tightprove.specs.Growth.{IsGrown, IsSaturated, ArePieces, span_at}
use Rattle.tightprove.specs.Tasks.{HoldLeaks}
use Rattle.tightprove.specs.declared.class.Class.{Class}
use Rattle.tightprove.proofs.Calls.{empty_list}
use Rattle.tightprove.proofs.Closures.{leak_some, grown_leak, leak_in_grown, pieces_hold}
use Rattle.tightprove.proofs.Pending.{clean_within}

match_same : (r : Bool) (P Q : Type 0) → (P → Q) → (Q → P) → MatchBool r P (¬ P) → MatchBool r Q (¬ Q)
match_same true P Q f g p = f p
match_same false P Q f g n = λ q. n (g q)

-- a set is a leak exactly where it is in the span that is grown for it
pub leaks_exact : LeaksAreClosed ℕ → (classes : List Class) (products : List (Product ℕ)) → AreClassesOf products classes → (candidates : Basis) (span : List (Columns ℕ)) (v : Columns ℕ)
    → SameSpan (row_sets candidates) (v ∷ []) → v ≢ empty → IsGrown classes (row_sets candidates) span
    → Spans span (row_sets candidates) ⊎ IsSaturated classes candidates span
    → (r : Bool) → MatchBool r (InSpan span v) (¬ InSpan span v) → MatchBool r (IsLeak products v) (¬ IsLeak products v)
leaks_exact law classes products are candidates span v same some grown ended r h =
    let inside : InSpan (row_sets candidates) v = (same v).1 (in_head v []) in
    match_same r (InSpan span v) (IsLeak products v)
    (λ m. (law products v).1 (grown_leak classes (row_sets candidates) span grown v inside m some products are))
    (λ leak. leak_in_grown classes candidates span v ended (λ u m. (same u).0 m) inside products are ((law products v).0 leak)) h

-- the pieces of what is left of the candidates hold all their leaks
pub split_pieces : (classes : List Class) (candidates rest : Basis) (span : List (Columns ℕ)) (pieces : List Basis) → rest.columns ≡ candidates.columns
    → KeepsLeaks classes (row_sets candidates) (row_sets rest) → length rest.rows ≤ length candidates.rows → MeetEmpty (row_sets rest) span
    → ArePieces classes rest span pieces → HoldLeaks classes candidates pieces
split_pieces classes candidates rest span pieces columns keeps rank apart split = record {
  few = split.few;
  columns = λ n lt. split.columns n lt ∙ columns;
  proper = λ n lt. (let h : length (span_at pieces n).rows < length rest.rows = split.proper n lt in omega (arith, h));
  leaks = λ products are v m leak. pieces_hold classes rest span pieces split apart products are v (keeps products are v m leak) leak;
}

-- candidates of which nothing is left have no leaks, which no pieces hold
pub split_none : (classes : List Class) (candidates rest : Basis) → KeepsLeaks classes (row_sets candidates) (row_sets rest) → length rest.rows ≡ 0
    → HoldLeaks classes candidates []
split_none classes candidates rest keeps none = record {
  few = omega arith;
  columns = λ n lt. absurd (omega arith);
  proper = λ n lt. absurd (omega arith);
  leaks = λ products are v m leak. absurd (
      let P : List (List Bool) → Type 0 = λ rows. InSpan (sets_of rows) v in
      leak_some products v leak (in_none v (subst P (empty_list rest.rows none) (keeps products are v m leak)))
      );
}

-- a class whose rows are in a clean span is clean
pub class_clean : (classes : List Class) (i : ℕ) (span rows : List (Columns ℕ)) → IsClean classes span → SameSpan span rows → rows ≡ class_rows classes i
    → IsClean classes (class_rows classes i)
class_clean classes i span rows clean same is =
    let P : List (Columns ℕ) → Type 0 = λ r. IsClean classes r in
    subst P is (clean_within classes span rows (λ v m. (same v).1 m) clean)

-- what holds of each number of a list that has all numbers below n holds of these
pub listed : (P : ℕ → Type 0) (order : List ℕ) (n last : ℕ) → ((i : ℕ) → i < n → Contains order i) → length order ≤ last
    → ((k : ℕ) → k < last → P (get_or order k 0)) → (i : ℕ) → i < n → P i
listed P order n last all past each i lt =
    let f = all i lt in
    subst P (get_or_default order f.0 0 i f.1 ∙ f.2) (each f.0 (omega (arith, f.1)))

-- an answer that says something else where nothing was found
pub found_clean : {X : Type 0} (found : Option X) (P Q : Type 0) (R : X → Type 0) → (P → Q) → MatchOption found P R → MatchOption found Q R
found_clean None P Q R f h = f h
found_clean (Some x) P Q R f h = h
