use Rattle.std.proofs.Common.{◌<◌, ◌++◌, List, ℕ, length, get_or, sym, subst, ◌∙◌, arith}
use Rattle.span_model.specs.Columns.{Columns}
use Rattle.span_model.specs.Span.{IsMeet}
use Rattle.span_model.proofs.Members.{in_front}
use Rattle.gf2_span.specs.Basis.{row_sets}
use Rattle.tightprove.specs.Classes.{AreNear, class_rows}
use Rattle.tightprove.proofs.Passes.{pieces_more, pieces_same, pieces_end}
use Rattle.tightprove.proofs.Taking.{rows_at, wide_at}
use Rattle.tightprove.proofs.pieces.pieces.Goals as goal
use Rattle.tightprove.proofs.pieces.pieces.Goals.{then-rank+in_ok-push, else-rank}

pub loop-i-preserved : goal.loop-i-preserved
loop-i-preserved c =
    let near : List ℕ = c.deref-i-items.result.now in
    let i : ℕ = get_or near c.loop-i.i-index 0 in
    let P : List ℕ → Type 0 = λ xs. AreNear c.args.classes.now.list.items (row_sets c.in_ok-rest.rest ++ row_sets c.args.span.now) (row_sets c.args.span.now) xs in
    let are : AreNear c.args.classes.now.list.items (row_sets c.in_ok-rest.rest ++ row_sets c.args.span.now) (row_sets c.args.span.now) near = subst P (sym c.deref-i-items.ensures.value) c.in_ok-touching.ensures in
    let lt : i < length c.args.classes.now.list.items = are.numbers c.loop-i.i-index 0 c.loop-i-test.true in
    let Q : List (Columns ℕ) → Type 0 = λ r. IsMeet (row_sets c.in_ok-piece.piece) (row_sets c.args.candidates.now) (r ++ row_sets c.args.span.now) in
    let meet : IsMeet (row_sets c.in_ok-piece.piece) (row_sets c.args.candidates.now) (class_rows c.args.classes.now.list.items i ++ row_sets c.args.span.now) =
    subst Q (rows_at c.args.classes.now.list.items i c.index.result.now c.as_slice.result.now lt c.index.ensures c.as_slice.ensures) c.in_ok-piece.ensures.members in
    elim c.if-rank.branch [
      | then-rank+in_ok-push w ↦ rw (w.pieces-is, w.in_ok-push.ensures.items)
          (pieces_more c.args.classes.now.list.items c.args.candidates.now (row_sets c.args.span.now) near c.loop-i.i-index c.loop-i.pieces.items c.in_ok-piece.piece
          c.loop-i.invariant c.in_ok-piece.ensures.columns (omega (arith, w.if-rank.true, c.rank.ensures.value, c.rank-in-loop-i.ensures.value)) meet)
      | else-rank w ↦ rw w.pieces-is
          (pieces_same c.args.classes.now.list.items c.args.candidates.now (row_sets c.args.span.now) near c.loop-i.i-index c.loop-i.pieces.items c.in_ok-piece.piece
          c.loop-i.invariant c.requires.apart c.requires.ended c.rank.ensures.independent (omega (arith, w.if-rank.false, c.rank.ensures.value, c.rank-in-loop-i.ensures.value)) meet)
    ]

pub returns : goal.returns
returns c =
    let near : List ℕ = c.deref-i-items.result.now in
    let P : List ℕ → Type 0 = λ xs. AreNear c.args.classes.now.list.items (row_sets c.in_ok-rest.rest ++ row_sets c.args.span.now) (row_sets c.args.span.now) xs in
    pieces_end c.args.classes.now.list.items c.args.candidates.now (row_sets c.args.span.now) (row_sets c.in_ok-rest.rest ++ row_sets c.args.span.now) near c.loop-i.i-index c.loop-i.pieces.items
    c.loop-i.invariant (omega (arith, c.loop-i-test.false, c.loop-i.auto.i-index-end)) (subst P (sym c.deref-i-items.ensures.value) c.in_ok-touching.ensures) c.in_ok-rest.ensures.members (in_front (row_sets c.in_ok-rest.rest) (row_sets c.args.span.now)) c.requires.apart

pub meet_sum-requires-clause-wide : goal.meet_sum-requires-clause-wide
meet_sum-requires-clause-wide c k h =
    let near : List ℕ = c.deref-i-items.result.now in
    let i : ℕ = get_or near c.loop-i.i-index 0 in
    let P : List ℕ → Type 0 = λ xs. AreNear c.args.classes.now.list.items (row_sets c.in_ok-rest.rest ++ row_sets c.args.span.now) (row_sets c.args.span.now) xs in
    let are : AreNear c.args.classes.now.list.items (row_sets c.in_ok-rest.rest ++ row_sets c.args.span.now) (row_sets c.args.span.now) near = subst P (sym c.deref-i-items.ensures.value) c.in_ok-touching.ensures in
    let lt : i < length c.args.classes.now.list.items = are.numbers c.loop-i.i-index 0 c.loop-i-test.true in
    wide_at c.args.classes.now.columns c.args.classes.now.list.items i c.index.result.now c.as_slice.result.now c.requires.classes.classes lt c.index.ensures c.as_slice.ensures k h
    ∙ sym c.requires.span_columns
