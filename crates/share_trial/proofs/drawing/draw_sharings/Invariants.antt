use Rattle.share_trial.proofs.Sharings.{DrawsOn}
use Rattle.share_trial.proofs.drawing.draw_sharings.Given as goal

abbrev pub invariant-loop-k : goal.invariant-loop-k
invariant-loop-k g l = DrawsOn l.bits g.row.D l.fn.draws l.count l._k l.draws l.sharings
