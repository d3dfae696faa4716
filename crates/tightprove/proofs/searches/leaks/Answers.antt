use Rattle.std.proofs.Common.{[], ◌∷◌, subst, List, Bool}
use Rattle.span_model.specs.Columns.{set_of}
use Rattle.span_model.specs.Span.{SameSpan}
use Rattle.gf2_span.specs.Basis.{Basis, row_sets}
use Rattle.linear_view.specs.View.{products_of}
use Rattle.tightprove.proofs.Verdicts.{leaks_exact}
use Rattle.tightprove.proofs.searches.leaks.Goals as goal

pub returns : goal.returns
returns c =
    let P : Basis → Type 0 = λ b. SameSpan (row_sets c.insert.new.self) (set_of c.in_ok-copy.field-0 ∷ row_sets b) in
    let Q : List Bool → Type 0 = λ r. SameSpan (row_sets c.insert.new.self) (set_of r ∷ []) in
    let same : SameSpan (row_sets c.insert.new.self) (set_of c.args.leak.now ∷ []) = subst Q c.in_ok-copy.ensures (subst P c.in_ok-candidates.ensures c.in_ok-_fresh.ensures.span) in
    leaks_exact c.leaks_are_closed.ensures c.in_ok-classes.classes.list.items (products_of c.args.view.now) c.in_ok-classes.ensures.products c.insert.new.self (row_sets c.in_ok-span.span) (set_of c.args.leak.now)
    same (λ e. cc (c.is_zero.ensures.1 e, c.if-is_zero.false)) c.in_ok-span.ensures.grown c.in_ok-span.ensures.ended c.contains.result c.contains.ensures.answer
