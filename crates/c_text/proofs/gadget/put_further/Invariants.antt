use Rattle.std.proofs.Common.{Ok, take, flat_map}
use Rattle.tor_edge.specs.Written.{Wrote}
use Rattle.c_text.specs.CText.{further_text, parameter_text}
use Rattle.c_text.proofs.gadget.put_further.Given as goal

abbrev pub invariant-loop-parameter : goal.invariant-loop-parameter
invariant-loop-parameter g l =
    Wrote {T = Unit {0}} g.S.Sink.faults g.S.Sink.written l.fn.sink l.sink
    (flat_map (further_text parameter_text) (take l.parameter-index l.parameters)) (Ok tt)
