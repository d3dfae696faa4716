use Rattle.std.proofs.Common.{Ok, take, flat_map}
use Rattle.tor_edge.specs.Written.{Wrote}
use Rattle.usuba0.specs.CoreText.{output_text}
use Rattle.usuba0.proofs.text.put_outputs.Given as goal

abbrev pub invariant-loop-register : goal.invariant-loop-register
invariant-loop-register g l =
    Wrote {T = Unit {0}} g.S.Sink.faults g.S.Sink.written l.fn.sink l.sink (flat_map output_text (take l.register-index l.registers)) (Ok tt)
