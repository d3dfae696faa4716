use Rattle.std.proofs.Common.{Ok, take, flat_map}
use Rattle.tor_edge.specs.Written.{Wrote}
use Rattle.c_text.specs.CText.{gadget_text}
use Rattle.c_text.proofs.file.put_gadgets.Given as goal

abbrev pub invariant-loop-gadget : goal.invariant-loop-gadget
invariant-loop-gadget g l =
    Wrote {T = Unit {0}} g.S.Sink.faults g.S.Sink.written l.fn.sink l.sink
    (flat_map gadget_text (take l.gadget-index l.gadgets)) (Ok tt)
