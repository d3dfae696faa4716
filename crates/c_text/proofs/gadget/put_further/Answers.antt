use Rattle.std.proofs.Common.{ap}
use Rattle.tor_edge.proofs.Writing.{Wrote-is, Wrote-next_stops}
use Rattle.c_text.specs.CText.{further_text, parameter_text}
use Rattle.c_text.proofs.gadget.put_further.Goals as goal

pub returns-in_err-put_parameter : goal.returns-in_err-put_parameter
returns-in_err-put_parameter g c =
    Wrote-next_stops (further_text parameter_text) _ _ c.parameter-item.result c.loop-parameter-test.true
    c.loop-parameter.invariant
    (Wrote-is (ap (further_text parameter_text) c.parameter-item.is) c.in_err-put_parameter.ensures)
    c.from_residual.ensures.0
