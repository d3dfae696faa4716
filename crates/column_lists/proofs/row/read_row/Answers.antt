use Rattle.std.proofs.Common.{ℕ, ap, ◌∙◌, replicate, false, arith}
use Rattle.column_lists.proofs.RowLemmas.{row_start, row_after_hit, row_after_miss}
use Rattle.column_lists.proofs.row.read_row.Goals as goal
use Rattle.column_lists.proofs.row.read_row.Goals.{then-is_next, else-is_next}

pub loop-c-init : goal.loop-c-init
loop-c-init c =
    row_start c.args.view.now.columns c.args.words c.in_ok-row.row c.next_named-next.result c.next_named-next.new.words
    (c.in_ok-row.ensures ∙ ap (λ (n : ℕ). replicate n false) c.columns-columns.ensures.value) c.next_named-next.ensures

pub loop-c-preserved : goal.loop-c-preserved
loop-c-preserved c =
    elim c.if-is_next.branch [
      | then-is_next w ↦
          row_after_hit c.args.view.now.columns c.args.words c.loop-c.c c.loop-c.row c.loop-c.next c.loop-c.words c.column.result c.is_next.result
          w.flip.new.self w.next_named-next-then-is_next.result w.next_named-next-then-is_next.new.words c.if-is_next.row c.if-is_next.next c.if-is_next.words
          c.loop-c.invariant (omega (arith, c.loop-c-test.true, c.columns-columns.ensures.value)) c.column.ensures c.is_next.ensures.named c.is_next.ensures.none w.if-is_next.true w.flip.ensures w.next_named-next-then-is_next.ensures
          w.row-is w.next-is w.words-is
      | else-is_next w ↦
          row_after_miss c.args.view.now.columns c.args.words c.loop-c.c c.loop-c.row c.loop-c.next c.loop-c.words c.column.result c.is_next.result
          c.if-is_next.row c.if-is_next.next c.if-is_next.words
          c.loop-c.invariant (omega (arith, c.loop-c-test.true, c.columns-columns.ensures.value)) c.column.ensures c.is_next.ensures.named w.if-is_next.false
          w.row-is w.next-is w.words-is
    ]
