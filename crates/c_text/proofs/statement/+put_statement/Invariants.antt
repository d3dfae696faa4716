use Rattle.std.proofs.Common.{Ok, take, flat_map}
use Rattle.tor_edge.specs.Written.{Wrote}
use Rattle.c_text.proofs.Trees.{inner_text}
use Rattle.c_text.proofs.statement.+put_statement.Given as goal

abbrev pub decreases-put_statement : goal.decreases-put_statement
decreases-put_statement g l = goal.size-put_statement g l

abbrev pub invariant-loop-inner : goal.invariant-loop-inner
invariant-loop-inner g l =
    Wrote {T = Unit {0}} g.S.Sink.faults g.S.Sink.written l.initial.sink l.sink
    (flat_map (inner_text l.depth) (take l.inner-index l.inner-items)) (Ok tt)
