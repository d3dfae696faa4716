use Rattle.linear_view.specs.declared.column.ColumnKind.TheVariants.{Input}
use Rattle.linear_view.specs.Rows.{own_row}
use Rattle.linear_view.proofs.RowLemmas.{rows_more}
use Rattle.linear_view.proofs.rows.own_rows.Goals as goal

pub loop-bit-preserved : goal.loop-bit-preserved
loop-bit-preserved c =
    rows_more c.args.columns.now.keys (own_row Input c.args.number) c.loop-bit.bit c.loop-bit.rows _ _
    c.loop-bit.invariant c.in_ok-own_row.ensures c.in_ok-push.ensures.ok
