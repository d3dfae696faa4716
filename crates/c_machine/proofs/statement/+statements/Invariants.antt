use Rattle.std.proofs.Common.{◌≡◌, ◌-◌, drop, map}
use Rattle.c_machine.specs.Machine as model
use Rattle.c_machine.specs.State.Answers.{state_of}
use Rattle.c_machine.proofs.statement.+statements.Given as goal

abbrev pub invariant-execute_all-loop-statement : goal.invariant-execute_all-loop-statement
invariant-execute_all-loop-statement l =
    model.in_turn (map (model.executed l.size.shares l.size.bits) (drop l.statement-index l.statements)) (state_of l.machine)
    ≡ model.in_turn (map (model.executed l.size.shares l.size.bits) l.statements) (state_of l.fn.machine)

abbrev pub invariant-run_rounds-loop-value : goal.invariant-run_rounds-loop-value
invariant-run_rounds-loop-value l =
    let body = model.in_turn (map (model.executed l.size.shares l.size.bits) l.body) in
    model.rounds l.counter body (l.size.shares - l.value) l.value (state_of l.machine)
    ≡ model.rounds l.counter body (l.size.shares - l.low) l.low (state_of l.fn.machine)
