use Rattle.std.proofs.Common.{◌≡◌, ◌++◌, ◌∙◌, sym, vec_len, length, eqb-true, arith}
use Rattle.span_model.specs.Columns.{sets_of}
use Rattle.gf2_span.specs.Basis.{row_sets}
use Rattle.gf2_span.proofs.Meeting.{meet_if_none, meet_if_as}
use Rattle.gf2_span.proofs.span.Span.meet_sum.Goals as goal

pub returns-then-is_empty-clause-members : goal.returns-then-is_empty-clause-members
returns-then-is_empty-clause-members c =
    let none : length c.a.inside.rows.items ≡ 0 = omega (arith, eqb-true (vec_len c.a.inside.rows) 0 (sym c.is_empty.ensures ∙ c.if-is_empty.true), c.a.inside.rows.ok) in
    rw (← c.a.view_is) (meet_if_none c.new.result c.a.inside.columns c.a.inside.rows.items (sets_of c.args.rows.now ++ row_sets c.args.base.now) none c.new.ensures)

pub returns-clause-members : goal.returns-clause-members
returns-clause-members c =
    meet_if_as c.meet_over.result (row_sets c.args.a.now) (row_sets c.in_ok-more.more ++ row_sets c.args.base.now) (sets_of c.args.rows.now ++ row_sets c.args.base.now) c.in_ok-more.ensures.same c.meet_over.ensures.members
