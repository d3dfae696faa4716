use Rattle.usuba0.specs.declared.circuit.Gate.TheVariants as gate
use Rattle.core_slots.proofs.Noting.{registers-before}
use Rattle.core_slots.proofs.slots.allot.Goals as goal

pub allot_next-requires-clause-registers : goal.allot_next-requires-clause-registers
allot_next-requires-clause-registers c =
    registers-before c.args.core.now c.equation_slice-gates.result.now c.loop-gate.gate-index _ (gate.Const 0)
    c.equation_slice-gates.ensures.core c.equation_slice-gates.ensures.gates c.loop-gate.invariant.made
    c.loop-gate-test.true
