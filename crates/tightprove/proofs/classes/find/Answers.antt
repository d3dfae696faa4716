use Rattle.std.proofs.Common.{◌<◌, List, ℕ, length, get_or, subst, arith}
use Rattle.std.specs.List.{Contains}
use Rattle.std.proofs.lemmas.List.Elements.{Contains-get_or}
use Rattle.span_model.specs.Columns.{Columns, sets_of}
use Rattle.span_model.specs.Span.{SameSpan}
use Rattle.gf2_span.specs.Basis.{row_sets}
use Rattle.tightprove.proofs.Gathering.{on_true}
use Rattle.tightprove.proofs.Taking.{wide_at, rows_at}
use Rattle.tightprove.proofs.classes.find.Goals as goal

pub index-requires : goal.index-requires
index-requires c =
    let P : List ℕ → Type 0 = λ js. Contains js (get_or c.lane_at-i-items.result.now c.loop-i.i-index 0) in
    let lt : get_or c.lane_at-i-items.result.now c.loop-i.i-index 0 < length c.args.list.now.items =
    c.requires.by_lead.numbers c.in-Some.lead (get_or c.lane_at-i-items.result.now c.loop-i.i-index 0) (subst P c.lane_at-i-items.ensures (Contains-get_or c.lane_at-i-items.result.now c.loop-i.i-index 0 c.loop-i-test.true)) in
    omega (arith, lt)

pub is_same-requires : goal.is_same-requires
is_same-requires c =
    let P : List ℕ → Type 0 = λ js. Contains js (get_or c.lane_at-i-items.result.now c.loop-i.i-index 0) in
    let lt : get_or c.lane_at-i-items.result.now c.loop-i.i-index 0 < length c.args.list.now.items =
    c.requires.by_lead.numbers c.in-Some.lead (get_or c.lane_at-i-items.result.now c.loop-i.i-index 0) (subst P c.lane_at-i-items.ensures (Contains-get_or c.lane_at-i-items.result.now c.loop-i.i-index 0 c.loop-i-test.true)) in
    wide_at c.args.span.now.columns c.args.list.now.items (get_or c.lane_at-i-items.result.now c.loop-i.i-index 0) c.index.result.now c.as_slice.result.now c.requires.classes lt c.index.ensures c.as_slice.ensures

pub returns-then-branch : goal.returns-then-branch
returns-then-branch c =
    let i : ℕ = get_or c.lane_at-i-items.result.now c.loop-i.i-index 0 in
    let P : List ℕ → Type 0 = λ js. Contains js (get_or c.lane_at-i-items.result.now c.loop-i.i-index 0) in
    let lt : get_or c.lane_at-i-items.result.now c.loop-i.i-index 0 < length c.args.list.now.items =
    c.requires.by_lead.numbers c.in-Some.lead (get_or c.lane_at-i-items.result.now c.loop-i.i-index 0) (subst P c.lane_at-i-items.ensures (Contains-get_or c.lane_at-i-items.result.now c.loop-i.i-index 0 c.loop-i-test.true)) in
    let same : SameSpan (sets_of c.as_slice.result.now) (row_sets c.args.span.now) = on_true c.in_ok-is_same.field-0 (SameSpan (sets_of c.as_slice.result.now) (row_sets c.args.span.now)) c.if-branch.true c.in_ok-is_same.ensures in
    let Q : List (Columns ℕ) → Type 0 = λ r. SameSpan r (row_sets c.args.span.now) in
    (lt, subst Q (rows_at c.args.list.now.items i c.index.result.now c.as_slice.result.now lt c.index.ensures c.as_slice.ensures) same)
