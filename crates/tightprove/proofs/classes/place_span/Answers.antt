use Rattle.std.proofs.Common.{◌<◌, ℕ, Option, length, subst, arith}
use Rattle.std.specs.Prelude.{IfSome}
use Rattle.span_model.specs.Columns.{sets_of}
use Rattle.span_model.specs.Span.{SameSpan}
use Rattle.gf2_span.specs.Basis.{row_sets}
use Rattle.tightprove.specs.Classes.{class_rows}
use Rattle.tightprove.proofs.Gathering.{same_follow, placed}
use Rattle.tightprove.proofs.classes.place_span.Goals as goal

pub returns-in-Some-clause-number : goal.returns-in-Some-clause-number
returns-in-Some-clause-number c =
    let P : Option ℕ → Type 0 = λ found. IfSome found (λ i. (i < length c.args.list.now.items) × SameSpan (class_rows c.args.list.now.items i) (row_sets c.in_ok-span.span)) in
    let found : (c.in-Some.i < length c.args.list.now.items) × SameSpan (class_rows c.args.list.now.items c.in-Some.i) (row_sets c.in_ok-span.span) = subst P c.in-Some.is c.in_ok-i.ensures in
    (found.0, same_follow (class_rows c.args.list.now.items c.in-Some.i) (row_sets c.in_ok-span.span) (sets_of c.args.rows.now) found.1 c.in_ok-span.ensures.span)

pub returns-in_ok-add_class-in-None-clause-number : goal.returns-in_ok-add_class-in-None-clause-number
returns-in_ok-add_class-in-None-clause-number c =
    placed c.args.list.now.items c.add_class.new.list.items c.in_ok-span.span.rows c.len-i.result (sets_of c.args.rows.now) c.in_ok-add_class-in-None.ensures.list
    (omega (arith, c.len-i.ensures)) c.in_ok-span.ensures.span
