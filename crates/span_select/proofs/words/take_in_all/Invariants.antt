use Rattle.std.proofs.Common.{◌≡◌, ◌≤◌, ◌*◌, take, length, All}
use Rattle.span_model.specs.Columns.{sets_of}
use Rattle.gf2_span.specs.Basis.{row_sets}
use Rattle.span_select.specs.Words.{IsFrame, TakesIn}
use Rattle.span_select.proofs.words.take_in_all.Given as goal

abbrev pub invariant-loop-row : goal.invariant-loop-row
invariant-loop-row l = record {
  basis_columns : l.basis.columns ≡ l.initial.basis.columns;
  wide : All (λ word. length word ≡ 2 * l.columns) l.words.items;
  frame : IsFrame l.columns (row_sets l.basis) l.owners.items;
  last_group : All (λ owner. owner ≤ l.group) l.owners.items;
  taken : TakesIn l.columns l.group (row_sets l.initial.basis) l.initial.owners.items (row_sets l.basis) l.owners.items (sets_of (take l.row-index l.rows)) (sets_of l.words.items);
}
