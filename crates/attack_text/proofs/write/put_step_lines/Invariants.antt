use Rattle.std.proofs.Common.{Ok, take}
use Rattle.tor_edge.specs.Written.{Wrote}
use Rattle.attack_text.specs.AttackText.{steps_text}
use Rattle.attack_text.proofs.write.put_step_lines.Given as goal

abbrev pub invariant-loop-index : goal.invariant-loop-index
invariant-loop-index g l =
    Wrote {T = Unit {0}} g.S.Sink.faults g.S.Sink.written l.fn.sink l.sink (steps_text 0 (take l.index l.steps)) (Ok tt)
