-- What the code answers, as the machine's readings and outcomes.
use Rattle.std.specs.Prelude.{◌≡◌, ℕ, List, Option, None, Some, Result, Ok, Err, vec_items}
use Rattle.c_machine.specs.Scope.{Binding}
use Rattle.c_machine.specs.Run.{Ending, stop_at}
use Rattle.c_machine.specs.declared.stop.RunFault.{RunFault}
use Rattle.c_machine.specs.declared.stop.RunFault.TheVariants as fault
use Rattle.c_machine.specs.declared.stop.Trap.TheVariants.{IndexOut}
use Rattle.c_machine.specs.Machine.{Reading, Outcome, State}
use Rattle.c_machine.specs.State.Scopes.{scope_of}
use Rattle.c_machine.specs.declared.statement.Machine.{Machine}
use Rattle.c_machine.specs.declared.stop.Trap.{Trap}
use Rattle.c_machine.specs.declared.stop.Stop.{Stop}
use Rattle.c_machine.specs.declared.stop.Stop.TheVariants as stop

-- a reading, with the random words that are left
abbrev pub IsReading : Reading → Result ℕ Trap → List ℕ → Type 0
IsReading reading (Ok word) stream = reading ≡ Ok (word, stream)
IsReading reading (Err trap) stream = reading ≡ Err trap

-- the state of the machine
abbrev pub state_of : Machine → State
state_of machine = record {
  scope = scope_of (vec_items machine.names);
  memory = vec_items machine.rows;
  stream = machine.stream.words.now;
}

-- an outcome, with the state after it; want of memory has no cause
abbrev pub IsOutcome : Outcome → Result Unit Stop → State → Type 0
IsOutcome outcome (Ok done) state = outcome ≡ Ok state
IsOutcome outcome (Err (stop.Trap trap)) state = outcome ≡ Err trap
IsOutcome outcome (Err (stop.Memory error)) state = Unit {0}

-- the parameters of a gadget in scope; an argument that is no row stops the call
abbrev pub IsBound : Option (List Binding) → Result Unit Stop → List Binding → Type 0
IsBound bound (Ok done) scope = bound ≡ Some scope
IsBound bound (Err (stop.Trap trap)) scope = (bound ≡ None) × (trap ≡ IndexOut)
IsBound bound (Err (stop.Memory error)) scope = Unit {0}

-- how the calls end, with the memory after them; want of memory has no cause
abbrev pub IsEnding : Ending → Result Unit RunFault → List (List ℕ) → Type 0
IsEnding ending (Ok done) memory = ending ≡ Ok memory
IsEnding ending (Err (fault.IndexOut k)) memory = ending ≡ Err (fault.IndexOut k)
IsEnding ending (Err (fault.BadShift k)) memory = ending ≡ Err (fault.BadShift k)
IsEnding ending (Err fault.WordsShort) memory = ending ≡ Err fault.WordsShort
IsEnding ending (Err (fault.Memory error)) memory = Unit {0}

-- what stopped a call, as what stops the run
abbrev pub fault_of : ℕ → Stop → RunFault
fault_of k (stop.Trap trap) = stop_at k trap
fault_of k (stop.Memory error) = fault.Memory error
