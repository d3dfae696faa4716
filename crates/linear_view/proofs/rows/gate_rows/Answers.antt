use Rattle.std.proofs.Common.{◌≡◌, ℕ, map, ap, ◌∙◌, arith}
use Rattle.linear_view.specs.Names.{bits}
use Rattle.linear_view.specs.Rows.{gate_row, rows_over}
use Rattle.linear_view.proofs.RowLemmas.{rows_more}
use Rattle.linear_view.proofs.rows.gate_rows.Goals as goal

pub loop-bit-preserved : goal.loop-bit-preserved
loop-bit-preserved c all h =
    rows_more c.args.columns.now.keys (gate_row c.args.stage.width c.args.stage.products c.args.stage.refreshes all c.args.gate.now) c.loop-bit.bit c.loop-bit.rows _ _
    (c.loop-bit.invariant all h) (c.in_ok-gate_row.ensures all h) c.in_ok-push.ensures.ok

pub returns : goal.returns
returns c all h =
    let whole : c.loop-bit.bit ≡ c.args.stage.width = omega arith in
    c.loop-bit.invariant all h
    ∙ ap (λ (b : ℕ). rows_over c.args.columns.now.keys (map (gate_row c.args.stage.width c.args.stage.products c.args.stage.refreshes all c.args.gate.now) (bits b))) whole
