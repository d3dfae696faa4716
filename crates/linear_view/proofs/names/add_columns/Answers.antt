use Rattle.linear_view.proofs.ColumnLemmas.{columns_next}
use Rattle.linear_view.proofs.names.add_columns.Goals as goal

pub loop-bit-preserved : goal.loop-bit-preserved
loop-bit-preserved c =
    columns_next c.args.columns.now.keys c.loop-bit.columns.keys _ c.args.kind c.args.number c.loop-bit.bit c.loop-bit.invariant c.requires c.in_ok-insert.ensures.keys
