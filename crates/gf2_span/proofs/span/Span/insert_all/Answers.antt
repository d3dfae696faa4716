use Rattle.std.proofs.Common.{ℕ, ◌∷◌, ◌++◌, take, sym, subst, ◌∙◌}
use Rattle.span_model.specs.Columns.{set_of, sets_of}
use Rattle.span_model.specs.Span.{SameSpan}
use Rattle.gf2_span.specs.Basis.{Basis, row_sets}
use Rattle.gf2_span.proofs.Leads.{on_err, sum_more, sum_whole}
use Rattle.gf2_span.proofs.span.Span.insert_all.Goals as goal

pub loop-row-preserved : goal.loop-row-preserved
loop-row-preserved c =
    let grown : SameSpan (row_sets c.insert.new.self) (set_of c.row-item.result ∷ row_sets c.loop-row.self) = rw
    (← c.in_ok-copy.ensures) c.in_ok-_fresh.ensures.span in
    record {
      columns = c.in_ok-_fresh.ensures.columns ∙ c.loop-row.invariant.columns;
      spanned = sum_more (row_sets c.loop-row.self) (row_sets c.insert.new.self)
          (row_sets c.args.self.now) c.args.rows.now c.loop-row.row-index c.row-item.result
          c.loop-row-test.true c.row-item.is c.loop-row.invariant.spanned grown;
    }

pub returns-in_err-_fresh-clause-err : goal.returns-in_err-_fresh-clause-err
returns-in_err-_fresh-clause-err c =
    let P : Basis → Type 0 = λ b. SameSpan (row_sets b) (row_sets c.args.self.now ++ sets_of
    (take c.loop-row.row-index c.args.rows.now)) in
    on_err c.from_residual-in_err-_fresh.result ((n : ℕ)
    × SameSpan (row_sets c.insert.new.self) (row_sets c.args.self.now ++ sets_of (take n c.args.rows.now)))
    (c.loop-row.row-index, subst P (sym c.in_err-_fresh.ensures.err) c.loop-row.invariant.spanned)

pub returns-clause-span : goal.returns-clause-span
returns-clause-span c =
    sum_whole (row_sets c.loop-row.self)
    (row_sets c.args.self.now) c.args.rows.now c.loop-row.row-index c.loop-row-test.false c.loop-row.invariant.spanned
