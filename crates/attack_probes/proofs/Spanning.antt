-- Spans that grow by rows.
use Rattle.std.proofs.Common.{◌≡◌, ◌<◌, ◌+◌, List, [], ◌∷◌, ◌++◌, Bool, true, false, MatchBool, length, take, get_or, sym, ap, ◌∙◌, subst, append_assoc, ℕ}
use Rattle.span_model.specs.Columns.{Columns, set_of, sets_of}
use Rattle.span_model.specs.Span.{InSpan, SameSpan}
use Rattle.span_model.proofs.Members.{spans_cons, spans_both, spans_later, in_head, in_behind, in_front, spans_none}

module _ {C : Type 0} where
  -- spans that are the same stay so with more rows
  pub same_append : (now before rows more : List (Columns C)) → SameSpan before rows → SameSpan now (before ++ more) → SameSpan now (rows ++ more)
  same_append now before rows more same grown v = (
    λ m. spans_both (rows ++ more) before more (λ u h. in_behind rows more u ((same u).0 h)) (in_front rows more) v ((grown v).0 m),
    λ m. (grown v).1 (spans_both (before ++ more) rows more (λ u h. in_behind before more u ((same u).1 h)) (in_front before more) v m),
  )

  -- a verdict on one of two lists that span the same is one on the other
  pub same_in : (rows others : List (Columns C)) (v : Columns C) (b : Bool) → SameSpan rows others
      → MatchBool b (InSpan rows v) (¬ InSpan rows v) → MatchBool b (InSpan others v) (¬ InSpan others v)
  same_in rows others v true same h = (same v).0 h
  same_in rows others v false same h = λ m. h ((same v).1 m)
