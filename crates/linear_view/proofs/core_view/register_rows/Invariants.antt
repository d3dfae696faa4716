use Rattle.linear_view.proofs.CoreLemmas.{IsUnderWay}
use Rattle.linear_view.proofs.core_view.register_rows.Given as goal

abbrev pub invariant-loop-gate : goal.invariant-loop-gate
invariant-loop-gate l = IsUnderWay l.columns.keys l.width l.inputs l.gates l.gate-index l.stage l.last.items l.registers.items
