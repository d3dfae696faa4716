use Rattle.std.proofs.Common.{ℕ, Bool, List, [], ◌∷◌, ◌++◌, map, sym, ap, ◌∙◌, arith}
use Rattle.std.proofs.lemmas.List.FromFn.{map-range_with_len_more}
use Rattle.std.specs.List.{range_with_len}
use Rattle.linear_view.specs.Rows.{input_rows, rows_over}
use Rattle.linear_view.proofs.rows.input_registers.Goals as goal

pub loop-number-preserved : goal.loop-number-preserved
loop-number-preserved c =
    let n = c.loop-number.number in
    let rows : ℕ → List (List Bool) = λ i. rows_over c.args.columns.now.keys (input_rows c.args.width i) in
    c.in_ok-push.ensures.items
    ∙ ap (λ (l : List (List (List Bool))). l ++ c.in_ok-own_rows.field-0 ∷ []) c.loop-number.invariant
    ∙ ap (λ (r : List (List Bool)). map rows (range_with_len 0 n) ++ r ∷ []) c.in_ok-own_rows.ensures
    ∙ sym (map-range_with_len_more rows 0 n n (omega arith))
