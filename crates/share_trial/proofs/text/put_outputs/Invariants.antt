use Rattle.std.proofs.Common.{Ok, take}
use Rattle.tor_edge.specs.Written.{Wrote}
use Rattle.share_trial.specs.TrialText.{outputs_text}
use Rattle.share_trial.proofs.text.put_outputs.Given as goal

abbrev pub invariant-loop-k : goal.invariant-loop-k
invariant-loop-k g l =
    Wrote {T = Unit {0}} g.S.Sink.faults g.S.Sink.written l.fn.sink l.sink (outputs_text 0 (take l.k l.outputs)) (Ok tt)
