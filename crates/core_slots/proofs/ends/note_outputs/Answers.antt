use Rattle.std.proofs.Common.{◌∷◌, [], ◌++◌, List, map, subst, arith}
use Rattle.std.proofs.lemmas.List.{take_all}
use Rattle.usuba0.specs.declared.circuit.Reg.{Reg}
use Rattle.core_slots.specs.State.Ends.{AreEnds}
use Rattle.core_slots.proofs.Noting.{AreEnds-next, AreEnds-copy}
use Rattle.core_slots.proofs.ends.note_outputs.Goals as goal

pub loop-register-init : goal.loop-register-init
loop-register-init c =
    record {
      count = omega arith;
      noted = λ groups last are. AreEnds-next c.args.inputs groups c.args.ends.now.items are;
    }

pub loop-register-preserved : goal.loop-register-preserved
loop-register-preserved c =
    record {
      count = omega (arith, c.note.ensures.count, c.loop-register.invariant.count);
      noted = λ groups last are.
          AreEnds-copy c.args.inputs c.len-place.result c.args.registers.now c.loop-register.register-index _ groups _ _
          c.loop-register-test.true (omega arith) (c.loop-register.invariant.noted groups last are)
          c.note.ensures.noted c.note.ensures.count;
    }

pub returns-clause-noted : goal.returns-clause-noted
returns-clause-noted c =
    λ groups last are.
    let P : List Reg → Type 0 = λ rs. AreEnds c.args.inputs (groups ++ map (λ
    (r : Reg). r.0) rs ∷ []) c.loop-register.ends.items in
    subst P (take_all c.loop-register.register-index c.args.registers.now c.loop-register-test.false)
    (c.loop-register.invariant.noted groups last are)
