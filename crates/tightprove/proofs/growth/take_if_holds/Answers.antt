use Rattle.std.proofs.Common.{◌++◌}
use Rattle.span_model.specs.Span.{Spans}
use Rattle.tightprove.specs.Growth.{HasRowOutside}
use Rattle.span_model.specs.Columns.{sets_of}
use Rattle.gf2_span.specs.Basis.{row_sets}
use Rattle.tightprove.proofs.Taking.{rows_at, when_true, grown_taken}
use Rattle.tightprove.proofs.growth.take_if_holds.Goals as goal

pub returns-clause-grown : goal.returns-clause-grown
returns-clause-grown c =
    grown_taken c.args.classes.now.list.items (row_sets c.args.candidates.now) (row_sets c.args.growth.now.span) (row_sets c.take.new.self.span) c.args.i (sets_of c.as_slice.result.now)
    (rows_at c.args.classes.now.list.items c.args.i c.index.result.now c.as_slice.result.now c.requires.i c.index.ensures c.as_slice.ensures)
    (when_true c.in_ok-holds.field-0 (Spans (sets_of c.as_slice.result.now ++ row_sets c.args.growth.now.span) (row_sets c.args.candidates.now)) (HasRowOutside c.args.candidates.now.rows (sets_of c.as_slice.result.now ++ row_sets c.args.growth.now.span)) c.if-not-branch.false c.in_ok-holds.ensures.answer) c.requires.grown c.in_ok-take.ensures.span
