use Rattle.std.proofs.Common.{ℕ, ◌≡◌, ◌∷◌, [], ◌*◌, List, Bool, length, take, ap, subst, ◌∙◌}
use Rattle.std.proofs.lemmas.List.{map_push}
use Rattle.span_model.specs.Columns.{set_of, sets_of}
use Rattle.gf2_span.specs.Basis.{row_sets}
use Rattle.span_select.specs.Words.{IsFrame, TakesIn}
use Rattle.span_select.proofs.Growing.{taken_more, read_row, all_more}
use Rattle.span_select.proofs.TakingIn.{takes_more}
use Rattle.span_select.proofs.words.take_in_all.Goals as goal

pub loop-row-preserved : goal.loop-row-preserved
loop-row-preserved c =
    let wide : length c.row-item.result ≡ c.args.columns = read_row (λ (row : List Bool). length row ≡ c.args.columns) c.args.rows.now c.loop-row.row-index c.row-item.result c.requires.rows c.loop-row-test.true c.row-item.is in
    let P : ℕ → Type 0 = λ n. IsFrame n (row_sets c.take_in.new.basis) c.take_in.new.owners.items in
    let Q : ℕ → Type 0 = λ n. TakesIn n c.args.group (row_sets c.loop-row.basis) c.loop-row.owners.items (row_sets c.take_in.new.basis) c.take_in.new.owners.items (set_of c.row-item.result ∷ []) (set_of c.in_ok-take_in.field-0 ∷ []) in
    record {
      basis_columns = c.in_ok-take_in.ensures.basis_columns ∙ c.loop-row.invariant.basis_columns;
      wide = rw c.in_ok-push.ensures.items (all_more (λ (word : List Bool). length word ≡ 2 * c.args.columns) c.loop-row.words.items c.in_ok-take_in.field-0 c.loop-row.invariant.wide (c.in_ok-take_in.ensures.columns ∙ ap (λ n. 2 * n) wide));
      frame = subst P wide c.in_ok-take_in.ensures.frame;
      last_group = c.in_ok-take_in.ensures.last_group;
      taken = rw (c.in_ok-push.ensures.items, taken_more c.args.rows.now c.loop-row.row-index c.row-item.result c.loop-row-test.true c.row-item.is, map_push set_of c.loop-row.words.items c.in_ok-take_in.field-0)
          (takes_more c.args.columns c.args.group (row_sets c.args.basis.now) c.args.owners.now.items (row_sets c.loop-row.basis) c.loop-row.owners.items (row_sets c.take_in.new.basis) c.take_in.new.owners.items
          (sets_of (take c.loop-row.row-index c.args.rows.now)) (sets_of c.loop-row.words.items) (set_of c.row-item.result ∷ []) (set_of c.in_ok-take_in.field-0 ∷ [])
          c.loop-row.invariant.taken (subst Q wide c.in_ok-take_in.ensures.takes_in));
    }
