use Rattle.std.proofs.Common.{Ok, take}
use Rattle.tor_edge.specs.Written.{Wrote}
use Rattle.attack_text.specs.AttackText.{probes_text}
use Rattle.attack_text.proofs.write.put_probe_lines.Given as goal

abbrev pub invariant-loop-probe : goal.invariant-loop-probe
invariant-loop-probe g l =
    Wrote {T = Unit {0}} g.S.Sink.faults g.S.Sink.written l.fn.sink l.sink (probes_text (take l.probe-index l.probes)) (Ok tt)
