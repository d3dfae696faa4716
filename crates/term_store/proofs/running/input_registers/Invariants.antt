use Rattle.table_anf.specs.State.Emission.{StandFor}
use Rattle.term_store.specs.PlanCore.{terms_of_inputs}
use Rattle.term_store.proofs.running.input_registers.Given as goal

abbrev pub invariant-loop-k : goal.invariant-loop-k
invariant-loop-k l = StandFor l.terms.builder l.registers.items (terms_of_inputs l.k)
