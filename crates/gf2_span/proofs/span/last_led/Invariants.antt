use Rattle.gf2_span.proofs.Reducing.{IsSeeking}
use Rattle.gf2_span.proofs.span.last_led.Given as goal

abbrev pub invariant-loop-left : goal.invariant-loop-left
invariant-loop-left l = IsSeeking l.leads.items l.row l.most l.left l.high

abbrev pub decreases-loop-left : goal.decreases-loop-left
decreases-loop-left l = l.high
