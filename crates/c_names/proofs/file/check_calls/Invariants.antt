use Rattle.std.proofs.Common.{◌≡◌, drop, map}
use Rattle.c_names.specs.State.Answers.{passed}
use Rattle.c_names.specs.State.Gadgets.{fits_by, gadget_at}
use Rattle.c_names.proofs.file.check_calls.Given as goal

abbrev pub invariant-loop-call : goal.invariant-loop-call
invariant-loop-call l =
    passed (map (fits_by (gadget_at l.found)) (drop l.call-index l.calls)) l.places.left.now ≡ passed (map (fits_by (gadget_at l.found)) l.calls) l.fn.places.left.now
