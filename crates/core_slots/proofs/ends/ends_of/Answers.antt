use Rattle.std.proofs.Common.{arith}
use Rattle.core_slots.proofs.Noting.{core_registers}
use Rattle.core_slots.proofs.ends.ends_of.Goals as goal

pub note_equations-requires-clause-registers : goal.note_equations-requires-clause-registers
note_equations-requires-clause-registers c =
    core_registers c.args.core.now c.inputs-inputs.result _ c.equation_slice-gates.result.now
    c.equation_slice-gates.ensures.core c.inputs-inputs.ensures c.equation_slice-gates.ensures.gates
    (omega (arith, c.in_ok-ends.ensures.len))
