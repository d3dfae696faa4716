use Rattle.std.proofs.Common.{ℕ, ◌≡◌, refl, List, Bool, length, take, subst, ◌∙◌}
use Rattle.span_model.specs.Columns.{set_of, sets_of}
use Rattle.gf2_span.specs.Basis.{row_sets}
use Rattle.span_select.specs.Words.{StandsFor}
use Rattle.span_select.proofs.Growing.{taken_more, read_row}
use Rattle.span_select.proofs.Reaching.{lifted_none, lifted_more}
use Rattle.span_select.proofs.words.lift.Goals as goal

pub loop-row-init : goal.loop-row-init
loop-row-init c = rw c.in_ok-span.ensures (record { columns = refl; lifted = lifted_none c.args.columns (row_sets c.args.basis.now) })

pub loop-row-preserved : goal.loop-row-preserved
loop-row-preserved c =
    let wide : length c.row-item.result ≡ c.args.columns = read_row (λ (row : List Bool). length row ≡ c.args.columns) c.args.rows.now c.loop-row.row-index c.row-item.result c.requires.rows c.loop-row-test.true c.row-item.is in
    let P : ℕ → Type 0 = λ n. StandsFor n (row_sets c.args.basis.now) (set_of c.in_ok-word_of.field-0) (set_of c.row-item.result) in
    record {
      columns = c.in_ok-_fresh.ensures.columns ∙ c.loop-row.invariant.columns;
      lifted = rw (taken_more c.args.rows.now c.loop-row.row-index c.row-item.result c.loop-row-test.true c.row-item.is)
          (lifted_more c.args.columns (row_sets c.args.basis.now) (sets_of (take c.loop-row.row-index c.args.rows.now)) (row_sets c.loop-row.span) (row_sets c.insert.new.self) (set_of c.row-item.result) (set_of c.in_ok-word_of.field-0)
          c.loop-row.invariant.lifted (subst P wide c.in_ok-word_of.ensures.stands) c.in_ok-word_of.ensures.reduced c.in_ok-_fresh.ensures.span);
    }
