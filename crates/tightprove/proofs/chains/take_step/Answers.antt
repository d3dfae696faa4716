use Rattle.std.proofs.Common.{◌++◌, inr, List, subst}
use Rattle.span_model.specs.Columns.{Columns, set_of}
use Rattle.span_model.specs.Span.{InSpan, SameSpan}
use Rattle.gf2_span.specs.Basis.{row_sets}
use Rattle.tightprove.proofs.Calls.{of_true}
use Rattle.tightprove.proofs.Taking.{rows_at}
use Rattle.tightprove.proofs.chains.take_step.Goals as goal

pub returns-clause-taken : goal.returns-clause-taken
returns-clause-taken c = inr (
  subst (λ (rows : List (Columns _)). InSpan (rows ++ row_sets c.args.span.now) (set_of c.args.leak.now))
      (rows_at c.args.classes.now.list.items c.args.step.from c.index.result.now c.as_slice.result.now c.requires.from c.index.ensures c.as_slice.ensures)
      (of_true c.in_ok-is_held.field-0 _ c.if-not-branch.false c.in_ok-is_held.ensures),
  subst (λ (rows : List (Columns _)). SameSpan (row_sets c.insert_all.new.self) (row_sets c.args.span.now ++ rows))
      (rows_at c.args.classes.now.list.items c.args.step.to c.index-2.result.now c.as_slice-2.result.now c.requires.to c.index-2.ensures c.as_slice-2.ensures)
      c.in_ok-insert_all.ensures.span,
)
