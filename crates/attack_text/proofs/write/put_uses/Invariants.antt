use Rattle.std.proofs.Common.{Ok, take, flat_map}
use Rattle.tor_edge.specs.Written.{Wrote}
use Rattle.attack_text.proofs.WriteLemmas.{use_text}
use Rattle.attack_text.proofs.write.put_uses.Given as goal

abbrev pub invariant-loop-number : goal.invariant-loop-number
invariant-loop-number g l =
    Wrote {T = Unit {0}} g.S.Sink.faults g.S.Sink.written l.fn.sink l.sink (flat_map use_text (take l.number-index l.uses)) (Ok tt)
