use Rattle.std.proofs.Common.{◌≡◌, map}
use Rattle.linear_view.specs.declared.column.ColumnKind.TheVariants.{Input}
use Rattle.linear_view.specs.Names.{bits}
use Rattle.linear_view.specs.Rows.{own_row, rows_over}
use Rattle.linear_view.proofs.rows.own_rows.Given as goal

abbrev pub invariant-loop-bit : goal.invariant-loop-bit
invariant-loop-bit l = l.rows ≡ rows_over l.columns.keys (map (own_row Input l.number) (bits l.bit))
