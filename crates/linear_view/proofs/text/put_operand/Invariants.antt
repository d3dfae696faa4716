use Rattle.std.proofs.Common.{Ok, take}
use Rattle.tor_edge.specs.Written.{Wrote}
use Rattle.linear_view.specs.RowsText.{texts_from, line_text}
use Rattle.linear_view.proofs.text.put_operand.Given as goal

abbrev pub invariant-loop-bit : goal.invariant-loop-bit
invariant-loop-bit g l =
    Wrote {T = Unit {0}} g.S.Sink.faults g.S.Sink.written l.fn.sink l.sink (texts_from (line_text l.columns l.product l.side) 0 (take l.bit l.rows)) (Ok tt)
