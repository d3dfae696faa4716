use Rattle.std.proofs.Common.{Ok, take, flat_map}
use Rattle.tor_edge.specs.Written.{Wrote}
use Rattle.data_text.specs.Writing.{value_after}
use Rattle.data_text.proofs.write.put_more.Given as goal

abbrev pub invariant-loop-value : goal.invariant-loop-value
invariant-loop-value g l = Wrote {T = Unit {0}} g.S.Sink.faults g.S.Sink.written l.fn.sink l.sink (flat_map value_after (take l.value-index l.values)) (Ok tt)
