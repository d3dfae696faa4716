use Rattle.std.proofs.Common.{ap}
use Rattle.tor_edge.proofs.Writing.{Wrote-is, Wrote-next_stops}
use Rattle.c_text.specs.CText.{call_text}
use Rattle.c_text.proofs.file.put_calls.Goals as goal

pub returns-in_err-put_call : goal.returns-in_err-put_call
returns-in_err-put_call g c =
    Wrote-next_stops call_text _ _ c.call-item.result c.loop-call-test.true c.loop-call.invariant
    (Wrote-is (ap call_text c.call-item.is) c.in_err-put_call.ensures) c.from_residual.ensures.0
