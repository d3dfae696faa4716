use Rattle.std.proofs.Common.{◌≡◌}
use Rattle.span_model.specs.Columns.{set_of, sets_of, empty, ◌△◌}
use Rattle.span_model.specs.Span.{InSpan}
use Rattle.span_model.proofs.Members.{in_front}
use Rattle.gf2_span.specs.Basis.{row_sets}
use Rattle.gf2_span.proofs.Meeting.{spans_answer}
use Rattle.gf2_span.proofs.span.Span.spans_with.Goals as goal

pub returns-then-is_zero : goal.returns-then-is_zero
returns-then-is_zero c =
    let none : set_of c.reduce.new.row ≡ empty = c.is_zero.ensures.0 c.if-is_zero.true in
    let inside : InSpan (row_sets c.args.self.now) (set_of c.args.row.now) = rw (← c.in_ok-rest.ensures) (c.reduce.ensures.zero.0 none) in
    in_front (sets_of c.args.rows.now) (row_sets c.args.self.now) (set_of c.args.row.now) inside

pub returns : goal.returns
returns c =
    let by : InSpan (row_sets c.args.self.now) (set_of c.args.row.now △ set_of c.reduce.new.row) = rw (← c.in_ok-rest.ensures) c.reduce.ensures.same in
    spans_answer (row_sets c.args.self.now) (row_sets c.in_ok-more.more) (sets_of c.args.rows.now) (set_of c.args.row.now) (set_of c.reduce.new.row) (set_of c.reduce-2.new.row) c.is_zero-2.result
    c.in_ok-more.ensures.own c.in_ok-more.ensures.clear c.in_ok-more.ensures.same by c.reduce.ensures.clear c.reduce-2.ensures.zero c.is_zero-2.ensures
