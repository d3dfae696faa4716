use Rattle.std.proofs.Common.{map, take, arith}
use Rattle.c_form.specs.Slots.{operands}
use Rattle.core_slots.proofs.Noting.{AreEnds-equation, length-groups}
use Rattle.core_slots.proofs.ends.note_equations.Goals as goal

pub loop-place-preserved : goal.loop-place-preserved
loop-place-preserved c =
    record {
      count = omega (arith, c.note_operands.ensures.count, c.loop-place.invariant.count);
      noted = λ start.
          AreEnds-equation c.args.inputs c.args.gates.now c.loop-place.place _ _ _ (omega arith) c.of-operands.ensures
          (c.note_operands.ensures.noted (map operands (take c.loop-place.place c.args.gates.now))
          (length-groups c.args.gates.now c.loop-place.place (omega arith)) (c.loop-place.invariant.noted start));
    }
