use Rattle.tor_edge.proofs.Writing.{Wrote-next_stops}
use Rattle.usuba0.specs.CoreText.{output_text}
use Rattle.usuba0.proofs.text.put_outputs.Goals as goal

pub returns-in_err-put_output : goal.returns-in_err-put_output
returns-in_err-put_output g c =
    Wrote-next_stops output_text _ _ _ c.loop-register-test.true c.loop-register.invariant c.in_err-put_output.ensures c.from_residual.ensures.0
