use Rattle.std.proofs.Common.{Ok, take}
use Rattle.tor_edge.specs.Written.{Wrote}
use Rattle.c_text.specs.CText.{statements_text}
use Rattle.c_text.proofs.statement.put_statements.Given as goal

abbrev pub invariant-loop-statement : goal.invariant-loop-statement
invariant-loop-statement g l =
    Wrote {T = Unit {0}} g.S.Sink.faults g.S.Sink.written l.fn.sink l.sink
    (statements_text l.depth (take l.statement-index l.statements)) (Ok tt)
