use Rattle.std.proofs.Common.{◌≡◌, take}
use Rattle.c_form.specs.MaskedForm.{output_calls}
use Rattle.c_print.proofs.masked.output_calls.Given as goal

abbrev pub invariant-loop-k : goal.invariant-loop-k
invariant-loop-k l = l.calls ≡ output_calls l.rows.inputs l.rows.places.now 0 (take l.k l.registers)
