use Rattle.std.proofs.Common.{◌≡◌, take}
use Rattle.c_form.specs.MaskedForm.{equation_calls}
use Rattle.c_print.proofs.masked.equation_calls.Given as goal

abbrev pub invariant-loop-k : goal.invariant-loop-k
invariant-loop-k l = l.calls ≡ equation_calls l.width l.bits l.rows.inputs l.rows.places.now 0 (take l.k l.gates)
