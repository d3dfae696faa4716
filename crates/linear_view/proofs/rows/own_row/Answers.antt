use Rattle.std.proofs.Common.{ℕ, Bool, false, not, List, get_or, set, replicate, ap, ◌∙◌}
use Rattle.linear_view.specs.declared.column.Column.{Column}
use Rattle.linear_view.proofs.NameLemmas.{row_of_one, row_of_none, once_from_distinct, place_found}
use Rattle.linear_view.proofs.rows.own_row.Goals as goal
use Rattle.linear_view.proofs.rows.own_row.Goals.{in-Some, in_default}

pub returns : goal.returns
returns c =
    let names = c.args.columns.now.keys in
    let name : Column = record { kind = c.args.kind; number = c.args.number; bit = c.args.bit } in
    let made = c.in_ok-row.ensures ∙ ap (λ (n : ℕ). replicate n false) c.len.ensures.len in
    elim c.match-get_index_of.branch [
      | in-Some w ↦
          w.row-is ∙ w.flip.ensures
          ∙ ap (λ (row : List Bool). set row w.in-Some.c (not (get_or row w.in-Some.c false))) made
          ∙ row_of_one names name w.in-Some.c (once_from_distinct names c.len.ensures.unique) (place_found names name w.in-Some.c w.in-Some.ensures.index)
      | in_default w ↦ w.row-is ∙ made ∙ row_of_none names name w.in_default.ensures.found
    ]
