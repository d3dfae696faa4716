use Rattle.linear_view.specs.RowsText.{line_text}
use Rattle.linear_view.proofs.TextLemmas.{Wrote-number, Wrote-number_stops}
use Rattle.linear_view.proofs.text.put_operand.Goals as goal

pub returns-in_err-put_line : goal.returns-in_err-put_line
returns-in_err-put_line g c =
    Wrote-number_stops (line_text c.args.columns.now c.args.product c.args.side.now) c.args.rows.now c.loop-bit.bit c.index-rows-bit.result c.loop-bit-test.true c.index-rows-bit.is
    c.loop-bit.invariant c.in_err-put_line.ensures c.from_residual.ensures.0

pub loop-bit-preserved : goal.loop-bit-preserved
loop-bit-preserved g c =
    Wrote-number (line_text c.args.columns.now c.args.product c.args.side.now) c.args.rows.now c.loop-bit.bit c.index-rows-bit.result tt c.loop-bit-test.true c.index-rows-bit.is
    c.loop-bit.invariant c.in_ok-put_line.ensures
