use Rattle.std.proofs.Common.{ℕ, subst}
use Rattle.span_model.specs.Columns.{Columns, set_of, ◌△◌}
use Rattle.span_model.specs.Span.{InSpan}
use Rattle.gf2_span.specs.Basis.{row_sets}
use Rattle.span_select.proofs.words.word_of.Goals as goal

pub returns-clause-stands : goal.returns-clause-stands
returns-clause-stands c =
    let P : Columns ℕ → Type 0 = λ (x : Columns ℕ). InSpan (row_sets c.args.basis.now) (x △ set_of c.reduce_by.new.row) in
    subst P c.in_ok-word.ensures.raised c.reduce_by.ensures.same
