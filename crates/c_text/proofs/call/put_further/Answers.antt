use Rattle.tor_edge.proofs.Writing.{Wrote-next_stops}
use Rattle.c_text.specs.CText.{further_text, argument_text}
use Rattle.c_text.proofs.call.put_further.Goals as goal

pub returns-in_err-put_argument : goal.returns-in_err-put_argument
returns-in_err-put_argument g c =
    Wrote-next_stops (further_text argument_text) _ _ _ c.loop-argument-test.true c.loop-argument.invariant
    c.in_err-put_argument.ensures c.from_residual.ensures.0
