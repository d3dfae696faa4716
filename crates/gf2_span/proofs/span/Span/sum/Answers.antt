use Rattle.std.proofs.Common.{◌++◌, ◌≡◌, List, Bool, subst, ap, ◌∙◌}
use Rattle.span_model.specs.Columns.{sets_of}
use Rattle.span_model.specs.Span.{SameSpan}
use Rattle.gf2_span.specs.Basis.{Basis, row_sets}
use Rattle.gf2_span.proofs.Leads.{sum_ends}
use Rattle.gf2_span.proofs.span.Span.sum.Goals as goal

pub returns-clause-members : goal.returns-clause-members
returns-clause-members c =
    let P : Basis → Type 0 = λ b. SameSpan (row_sets c.insert_all.new.self)
    (row_sets b ++ sets_of c.as_slice.result.now) in
    let rows : c.as_slice.result.now ≡ c.args.b.now.rows = c.as_slice.ensures.value
    ∙ ap (λ (b : Basis). b.rows) c.b.view_is in
    let Q : List (List Bool) → Type 0 = λ r. SameSpan (row_sets c.insert_all.new.self)
    (row_sets c.args.a.now ++ sets_of r) in
    sum_ends (row_sets c.insert_all.new.self) (row_sets c.args.a.now) (row_sets c.args.b.now)
    (subst Q rows (subst P c.in_ok-sum.ensures c.in_ok-insert_all.ensures.span))
