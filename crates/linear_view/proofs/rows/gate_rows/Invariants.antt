use Rattle.std.proofs.Common.{◌≡◌, map}
use Rattle.linear_view.specs.Names.{bits}
use Rattle.linear_view.specs.Rows.{RegisterRows, gate_row, rows_over}
use Rattle.linear_view.specs.Walk.{HoldsNeeds}
use Rattle.linear_view.proofs.rows.gate_rows.Given as goal

abbrev pub invariant-loop-bit : goal.invariant-loop-bit
invariant-loop-bit l =
    (all : RegisterRows) → HoldsNeeds l.columns.keys all l.registers l.gate
    → l.rows ≡ rows_over l.columns.keys (map (gate_row l.stage.width l.stage.products l.stage.refreshes all l.gate) (bits l.bit))
