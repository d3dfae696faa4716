use Rattle.std.proofs.Common.{ℕ, ◌+◌, ap, sym, ◌∙◌}
use Rattle.span_model.specs.Columns.{Columns}
use Rattle.tor_edge.proofs.Writing.{Wrote-is, Wrote-then, Wrote-ok, Wrote-stops, Wrote-nothing}
use Rattle.linear_view.proofs.TextLemmas.{row_from, row_to-none, row_text-none, row_to-set, row_to-clear, row_around, row_to-all}
use Rattle.linear_view.proofs.text.put_row.Goals as goal
use Rattle.linear_view.proofs.text.put_row.Goals.{then-has+in_ok-put_column, else-has}

pub loop-c-init : goal.loop-c-init
loop-c-init g c =
    Wrote-is (sym (row_to-none c.args.columns.now c.args.row.now c.in-Some.first c.in-Some.ensures.1.none_before)) (Wrote-nothing c.args.sink.now tt)

pub returns-in_err-put_column : goal.returns-in_err-put_column
returns-in_err-put_column g c =
    Wrote-is (row_around c.args.columns.now c.args.row.now c.loop-c.c _ c.loop-c-test.true (sym c.has.ensures ∙ c.if-has.true))
    (Wrote-then c.loop-c.invariant
    (Wrote-stops (row_from c.args.columns.now c.args.row.now (c.loop-c.c + 1)) c.in_err-put_column.ensures c.from_residual.ensures.0))

pub loop-c-preserved : goal.loop-c-preserved
loop-c-preserved g c =
    elim c.if-has.branch [
      | then-has+in_ok-put_column w ↦
          rw w.sink-is
          (Wrote-is (row_to-set c.args.columns.now c.args.row.now c.loop-c.c _ c.loop-c-test.true (sym c.has.ensures ∙ w.if-has.true))
          (Wrote-then c.loop-c.invariant (Wrote-ok _ tt w.in_ok-put_column.ensures)))
      | else-has w ↦
          rw w.sink-is (Wrote-is (row_to-clear c.args.columns.now c.args.row.now c.loop-c.c (sym c.has.ensures ∙ w.if-has.false)) c.loop-c.invariant)
    ]

pub returns-after-loop-c : goal.returns-after-loop-c
returns-after-loop-c g c =
    Wrote-is (row_to-all c.args.columns.now c.args.row.now c.loop-c.c c.loop-c-test.false) c.loop-c.invariant

pub returns-in_default : goal.returns-in_default
returns-in_default g c =
    Wrote-is (sym (row_text-none c.args.columns.now c.args.row.now (λ k. ap (λ (set : Columns ℕ). set k) c.in_default.ensures)))
    (Wrote-nothing c.args.sink.now tt)
