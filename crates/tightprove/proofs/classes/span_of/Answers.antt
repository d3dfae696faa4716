use Rattle.std.proofs.Common.{◌++◌, ap, sym, subst, ◌∙◌}
use Rattle.span_model.specs.Columns.{sets_of}
use Rattle.span_model.specs.Span.{SameSpan}
use Rattle.gf2_span.specs.Basis.{Basis, row_sets}
use Rattle.tightprove.proofs.Gathering.{all_wide}
use Rattle.tightprove.proofs.classes.span_of.Goals as goal

pub returns-clause-span : goal.returns-clause-span
returns-clause-span c =
    let P : Basis → Type 0 = λ b. SameSpan (row_sets c.insert_all.new.self) (row_sets b ++ sets_of c.args.rows.now) in
    subst P c.in_ok-span.ensures c.in_ok-insert_all.ensures.span

pub insert_all-requires : goal.insert_all-requires
insert_all-requires c =
    all_wide c.in_ok-span.span.columns c.args.rows.now
    (λ k h. c.requires k h ∙ sym (ap (λ (b : Basis). b.columns) c.in_ok-span.ensures))
