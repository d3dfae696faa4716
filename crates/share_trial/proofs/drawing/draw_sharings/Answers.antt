use Rattle.std.proofs.Common.{arith}
use Rattle.share_trial.proofs.Sharings.{draws_next, draws_end, draws_leave}
use Rattle.share_trial.proofs.drawing.draw_sharings.Goals as goal

pub loop-k-preserved : goal.loop-k-preserved
loop-k-preserved g c =
    draws_next c.args.bits g.row.D c.args.draws.now c.args.count c.loop-k._k c.loop-k.draws c.draw_sharing.new.draws c.loop-k.sharings
    c.push.new.self c.in_ok-sharing.sharing (omega arith) c.in_ok-sharing.ensures.state c.in_ok-sharing.ensures.drawn c.in_ok-push.ensures.ok
    c.loop-k.invariant

pub returns-clause-drawn : goal.returns-clause-drawn
returns-clause-drawn g c =
    draws_end c.args.bits g.row.D c.args.draws.now c.args.count c.loop-k._k c.loop-k.draws c.loop-k.sharings (omega arith) c.loop-k.invariant

pub returns-clause-state : goal.returns-clause-state
returns-clause-state g c =
    draws_leave c.args.bits g.row.D c.args.draws.now c.args.count c.loop-k._k c.loop-k.draws c.loop-k.sharings (omega arith) c.loop-k.invariant
