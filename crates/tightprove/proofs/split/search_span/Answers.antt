use Rattle.std.proofs.Common.{◌≡◌, ◌≢◌, ◌∙◌, length, subst, List, Bool, Option, sym}
use Rattle.std.specs.Prelude.{MatchOption}
use Rattle.span_model.specs.Columns.{set_of, empty}
use Rattle.span_model.specs.Span.{InSpan}
use Rattle.gf2_span.specs.Basis.{row_sets}
use Rattle.tightprove.specs.Classes.{MeetEmpty}
use Rattle.tightprove.proofs.Closures.{grown_leak}
use Rattle.tightprove.proofs.Verdicts.{split_none, split_pieces}
use Rattle.tightprove.proofs.split.search_span.Goals as goal

pub returns-then-rank-eq0 : goal.returns-then-rank-eq0
returns-then-rank-eq0 c = rw c.new.ensures.items
    (split_none c.args.classes.now.list.items c.args.candidates.now c.in_ok-rest.rest c.in_ok-rest.ensures.leaks (sym c.rank.ensures.value ∙ c.if-rank-eq0.true))

pub returns-in-Some : goal.returns-in-Some
returns-in-Some c =
    let P : Option (List Bool) → Type 0 = λ found. MatchOption found (MeetEmpty (row_sets c.in_ok-rest.rest) (row_sets c.in_ok-span.span))
    (λ v. (length v ≡ c.in_ok-rest.rest.columns) × InSpan (row_sets c.in_ok-rest.rest) (set_of v) × InSpan (row_sets c.in_ok-span.span) (set_of v) × (set_of v ≢ empty)) in
    let found : (length c.in-Some.leak ≡ c.in_ok-rest.rest.columns) × InSpan (row_sets c.in_ok-rest.rest) (set_of c.in-Some.leak) × InSpan (row_sets c.in_ok-span.span) (set_of c.in-Some.leak) × (set_of c.in-Some.leak ≢ empty) =
    subst P c.in-Some.is c.in_ok-leak.ensures in
    (found.0 ∙ c.in_ok-rest.ensures.columns, grown_leak c.args.classes.now.list.items (row_sets c.in_ok-rest.rest) (row_sets c.in_ok-span.span) c.in_ok-span.ensures.grown (set_of c.in-Some.leak) found.1 found.2 found.3)

pub returns : goal.returns
returns c =
    let P : Option (List Bool) → Type 0 = λ found. MatchOption found (MeetEmpty (row_sets c.in_ok-rest.rest) (row_sets c.in_ok-span.span))
    (λ v. (length v ≡ c.in_ok-rest.rest.columns) × InSpan (row_sets c.in_ok-rest.rest) (set_of v) × InSpan (row_sets c.in_ok-span.span) (set_of v) × (set_of v ≢ empty)) in
    split_pieces c.args.classes.now.list.items c.args.candidates.now c.in_ok-rest.rest (row_sets c.in_ok-span.span) c.in_ok-pieces-in-None.field-0.items c.in_ok-rest.ensures.columns c.in_ok-rest.ensures.leaks c.in_ok-rest.ensures.rank
    (subst P c.in-None.is c.in_ok-leak.ensures) c.in_ok-pieces-in-None.ensures
