use Rattle.std.proofs.Common.{Ok, take, flat_map}
use Rattle.tor_edge.specs.Written.{Wrote}
use Rattle.c_text.specs.CText.{further_text, argument_text}
use Rattle.c_text.proofs.call.put_further.Given as goal

abbrev pub invariant-loop-argument : goal.invariant-loop-argument
invariant-loop-argument g l =
    Wrote {T = Unit {0}} g.S.Sink.faults g.S.Sink.written l.fn.sink l.sink
    (flat_map (further_text argument_text) (take l.argument-index l.arguments)) (Ok tt)
