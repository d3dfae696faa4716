use Rattle.std.proofs.Common.{◌∷◌, ◌++◌}
use Rattle.span_model.specs.Columns.{set_of, ◌△◌}
use Rattle.span_model.specs.Span.{InSpan}
use Rattle.span_model.proofs.Sets.{△_cancel_right}
use Rattle.span_model.proofs.Members.{in_as, in_sum, in_head, in_later, in_front, in_behind}
use Rattle.gf2_span.specs.Basis.{row_sets}
use Rattle.gf2_span.proofs.Meeting.{no_leads_cons, no_leads_as}
use Rattle.tightprove.proofs.apart.add_reduced.Goals as goal

pub returns-clause-clear : goal.returns-clause-clear
returns-clause-clear c =
    no_leads_as (row_sets c.args.span.now) (row_sets c.insert.new.self) (set_of c.reduce.new.row ∷ row_sets c.args.rest.now) (λ v m. (c.in_ok-_fresh.ensures.span v).0 m)
    (no_leads_cons (row_sets c.args.span.now) (row_sets c.args.rest.now) (set_of c.reduce.new.row) c.requires.clear c.reduce.ensures.clear)

pub returns-clause-more : goal.returns-clause-more
returns-clause-more c v m = (c.in_ok-_fresh.ensures.span v).1 (in_later (set_of c.reduce.new.row) (row_sets c.args.rest.now) v m)

pub returns-clause-row : goal.returns-clause-row
returns-clause-row c =
    let by : InSpan (row_sets c.args.span.now) (set_of c.args.row.now △ set_of c.reduce.new.row) = rw (← c.in_ok-left.ensures) c.reduce.ensures.same in
    let left : InSpan (row_sets c.insert.new.self) (set_of c.reduce.new.row) = (c.in_ok-_fresh.ensures.span (set_of c.reduce.new.row)).1 (in_head (set_of c.reduce.new.row) (row_sets c.args.rest.now)) in
    in_as (row_sets c.insert.new.self ++ row_sets c.args.span.now) (△_cancel_right (set_of c.args.row.now) (set_of c.reduce.new.row))
    (in_sum (row_sets c.insert.new.self ++ row_sets c.args.span.now) (set_of c.args.row.now △ set_of c.reduce.new.row) (set_of c.reduce.new.row)
    (in_front (row_sets c.insert.new.self) (row_sets c.args.span.now) (set_of c.args.row.now △ set_of c.reduce.new.row) by)
    (in_behind (row_sets c.insert.new.self) (row_sets c.args.span.now) (set_of c.reduce.new.row) left))
