use Rattle.std.proofs.Common.{◌∙◌}
use Rattle.c_names.proofs.Turns.{next_right}
use Rattle.c_names.specs.State.Gadgets.{fits_by, gadget_at}
use Rattle.c_names.proofs.file.check_calls.Goals as goal

pub loop-call-preserved : goal.loop-call-preserved
loop-call-preserved c =
    next_right (fits_by (gadget_at c.args.found.now)) c.args.calls.now c.loop-call.call-index c.call-item.result c.call_is_right.result c.loop-call.places.left.now
    c.pass.new.self.left.now c.loop-call-test.true c.call-item.is c.call_is_right.ensures c.in_ok-pass.ensures
    ∙ c.loop-call.invariant
