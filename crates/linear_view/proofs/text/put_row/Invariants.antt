use Rattle.std.proofs.Common.{Ok}
use Rattle.tor_edge.specs.Written.{Wrote}
use Rattle.linear_view.proofs.TextLemmas.{row_to}
use Rattle.linear_view.proofs.text.put_row.Given as goal

abbrev pub invariant-loop-c : goal.invariant-loop-c
invariant-loop-c g l =
    Wrote {T = Unit {0}} g.S.Sink.faults g.S.Sink.written l.fn.sink l.sink (row_to l.columns l.row l.c) (Ok tt)
