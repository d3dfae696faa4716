use Rattle.std.proofs.Common.{◌≡◌, [], length, map, take}
use Rattle.c_form.specs.Slots.{operands}
use Rattle.core_slots.specs.State.Ends.{AreEnds}
use Rattle.core_slots.proofs.ends.note_equations.Given as goal

abbrev pub invariant-loop-place : goal.invariant-loop-place
invariant-loop-place l =
    record {
      count : length l.ends.items ≡ length l.fn.ends.items;
      noted : AreEnds l.inputs [] l.fn.ends.items → AreEnds l.inputs (map operands (take l.place l.gates)) l.ends.items;
    }
