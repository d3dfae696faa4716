use Rattle.std.proofs.Common.{ap}
use Rattle.tor_edge.proofs.Writing.{Wrote-is, Wrote-next, Wrote-next_stops}
use Rattle.c_text.specs.CText.{gadget_text}
use Rattle.c_text.proofs.file.put_gadgets.Goals as goal

pub returns-in_err-put_gadget : goal.returns-in_err-put_gadget
returns-in_err-put_gadget g c =
    Wrote-next_stops gadget_text _ _ c.gadget-item.result c.loop-gadget-test.true c.loop-gadget.invariant
    (Wrote-is (ap gadget_text c.gadget-item.is) c.in_err-put_gadget.ensures) c.from_residual.ensures.0

pub loop-gadget-preserved : goal.loop-gadget-preserved
loop-gadget-preserved g c =
    Wrote-next gadget_text _ _ c.gadget-item.result tt c.loop-gadget-test.true c.loop-gadget.invariant
    (Wrote-is (ap gadget_text c.gadget-item.is) c.in_ok-put_gadget.ensures)
