use Rattle.linear_view.proofs.SomeLemmas.{HoldsSoFar}
use Rattle.linear_view.proofs.names.needed_columns.Given as goal

abbrev pub invariant-loop-gate : goal.invariant-loop-gate
invariant-loop-gate l = HoldsSoFar l.width l.inputs l.gates l.last_reads l.gate-index l.stage l.columns.keys
