use Rattle.std.proofs.Common.{◌≡◌, ◌+◌, Ok, take}
use Rattle.tor_edge.specs.Written.{Wrote}
use Rattle.usuba0.specs.CoreText.{equations_text}
use Rattle.usuba0.proofs.text.put_equations.Given as goal

abbrev pub invariant-loop-gate : goal.invariant-loop-gate
invariant-loop-gate g l =
    record {
      wrote : Wrote {T = Unit {0}} g.S.Sink.faults g.S.Sink.written l.fn.sink l.sink (equations_text l.first (take l.gate-index l.gates)) (Ok tt);
      counted : l.register ≡ l.first + l.gate-index;
    }
