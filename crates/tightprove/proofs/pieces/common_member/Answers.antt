use Rattle.std.proofs.Common.{◌≡◌, sym, subst, ◌∙◌, length, List, Bool}
use Rattle.span_model.specs.Columns.{set_of, empty}
use Rattle.span_model.specs.Span.{InSpan}
use Rattle.gf2_span.specs.Basis.{row_sets}
use Rattle.tightprove.proofs.Calls.{no_common, some_column}
use Rattle.tightprove.proofs.pieces.common_member.Goals as goal

pub returns : goal.returns
returns c = no_common (row_sets c.args.a.now) (row_sets c.args.b.now) c.in_ok-meet.meet c.in_ok-meet.ensures.members c.in-None.ensures

pub returns-in-Some : goal.returns-in-Some
returns-in-Some c =
    let P : List Bool → Type 0 = λ r. (length r ≡ c.args.a.now.columns) × InSpan (row_sets c.args.a.now) (set_of r) × InSpan (row_sets c.args.b.now) (set_of r) × (set_of r ≡ empty → ⊥) in
    let row : List Bool = c.in-Some.row.now in
    let found = c.in-Some.ensures in
    let both : InSpan (row_sets c.args.a.now) (set_of row) × InSpan (row_sets c.args.b.now) (set_of row) = (c.in_ok-meet.ensures.members (set_of row)).0 found.1 in
    subst P (sym c.in_ok-copy-in-Some.ensures) (found.0 ∙ c.in_ok-meet.ensures.columns, both.0, both.1, some_column (set_of row) found.2.0 found.2.1)
