-- A run of a file: its calls in order, over the rows of `out`, `in` and `v`.
use Rattle.std.specs.Prelude.{◌≡◌, ℕ, zero, suc, ◌+◌, nat_lt, if◌then◌else◌, List, [], ◌∷◌, ◌++◌, map}
use Rattle.std.specs.Prelude.{take, drop, replicate, bytes_eq, Option, None, Some, Result, Ok, Err}
use Rattle.c_tree.specs.declared.CFile.{CFile}
use Rattle.c_tree.specs.declared.CFun.{CFun}
use Rattle.c_tree.specs.declared.CParam.{CParam}
use Rattle.c_tree.specs.declared.CParam.TheVariants as parameter
use Rattle.c_tree.specs.declared.CCall.{CCall}
use Rattle.c_tree.specs.declared.CArg.{CArg}
use Rattle.c_tree.specs.declared.CArg.TheVariants as argument
use Rattle.c_machine.specs.Scope.{Binding, Meaning, row, word}
use Rattle.c_machine.specs.Machine.{Outcome, in_turn, executed}
use Rattle.c_machine.specs.declared.stop.Trap.{Trap}
use Rattle.c_machine.specs.declared.stop.Trap.TheVariants as trap
use Rattle.c_machine.specs.declared.stop.RunFault.{RunFault}
use Rattle.c_machine.specs.declared.stop.RunFault.TheVariants as fault

-- the name of a parameter
abbrev pub parameter_name : CParam → List ℕ
parameter_name (parameter.Array name) = name
parameter_name (parameter.Word name) = name

-- a row of an array of so many rows, which begin in memory at `start`
abbrev pub row_from : ℕ → ℕ → ℕ → Option Meaning
row_from start rows n = if nat_lt n rows then Some (row (start + n)) else None

-- what an argument stands for: the rows of `out` come first in memory, then those of `in`, then those of `v`; a row
-- past the last of its array is none
abbrev pub argument_meaning : CFile → CArg → Option Meaning
argument_meaning file (argument.Out n) = row_from 0 file.outputs n
argument_meaning file (argument.Input n) = row_from file.outputs file.inputs n
argument_meaning file (argument.Slot n) = row_from (file.outputs + file.inputs) file.slots n
argument_meaning file (argument.Number n) = Some (word n)

-- a parameter with what it stands for, before those of the further parameters
abbrev pub bound_first : List ℕ → Option Meaning → Option (List Binding) → Option (List Binding)
bound_first name None scope = None
bound_first name (Some meant) None = None
bound_first name (Some meant) (Some scope) = Some (record { name = name; meaning = meant } ∷ scope)

-- the parameters of a gadget with what the arguments of a call stand for, where no argument is a row past the last of
-- its array
abbrev pub bound : CFile → List CParam → List CArg → Option (List Binding)
bound file [] arguments = Some []
bound file (p ∷ parameters) [] = Some []
bound file (p ∷ parameters) (a ∷ arguments) =
    bound_first (parameter_name p) (argument_meaning file a) (bound file parameters arguments)

-- the gadget of a name
abbrev pub gadget_named : List CFun → List ℕ → Option CFun
gadget_named [] name = None
gadget_named (gadget ∷ gadgets) name = if bytes_eq gadget.name name then Some gadget else gadget_named gadgets name

-- the body of a gadget from the scope of its parameters
abbrev pub body_done : ℕ → ℕ → CFun → List (List ℕ) → List ℕ → Option (List Binding) → Outcome
body_done d bits gadget memory stream None = Err trap.IndexOut
body_done d bits gadget memory stream (Some scope) =
    in_turn (map (executed d bits) gadget.body) (record { scope = scope; memory = memory; stream = stream })

-- a call of a gadget; a name that is no gadget's does nothing
abbrev pub call_done : ℕ → CFile → List CArg → List (List ℕ) → List ℕ → Option CFun → Outcome
call_done d file arguments memory stream None = Ok (record { scope = []; memory = memory; stream = stream })
call_done d file arguments memory stream (Some gadget) =
    body_done d file.reg_bits gadget memory stream (bound file gadget.params arguments)

-- a call of `masked`
abbrev pub called : ℕ → CFile → CCall → List (List ℕ) → List ℕ → Outcome
called d file call memory stream = call_done d file call.args memory stream (gadget_named file.gadgets call.gadget)

-- what a call met, as what stops the run: the first call has number 0
abbrev pub stop_at : ℕ → Trap → RunFault
stop_at k trap.IndexOut = fault.IndexOut k
stop_at k trap.BadShift = fault.BadShift k
stop_at k trap.WordsShort = fault.WordsShort

-- how a run ends: the memory after its last call, or what it meets first
abbrev pub Ending : Type 0
Ending = Result (List (List ℕ)) RunFault

-- the further calls after one
abbrev pub after_call : ℕ → (List (List ℕ) → List ℕ → Ending) → Outcome → Ending
after_call k further (Err met) = Err (stop_at k met)
after_call k further (Ok state) = further state.memory state.stream

-- calls in order, the first of which has number k
abbrev pub calls_done : ℕ → CFile → ℕ → List CCall → List (List ℕ) → List ℕ → Ending
calls_done d file k [] memory stream = Ok memory
calls_done d file k (call ∷ calls) memory stream =
    after_call k (calls_done d file (suc k) calls) (called d file call memory stream)

-- so many rows of zeros
abbrev pub zero_rows : ℕ → ℕ → List (List ℕ)
zero_rows d n = replicate n (replicate d 0)

-- so many rows of d words each, from words in order
abbrev pub rows_of : ℕ → ℕ → List ℕ → List (List ℕ)
rows_of d zero words = []
rows_of d (suc n) words = take d words ∷ rows_of d n (drop d words)

-- the memory before the first call: the input shares in the rows of `in`, and zeros
abbrev pub start_memory : ℕ → CFile → List ℕ → List (List ℕ)
start_memory d file inputs = zero_rows d file.outputs ++ rows_of d file.inputs inputs ++ zero_rows d file.slots

-- the words of the rows of `out`, in order
abbrev pub words_of_rows : List (List ℕ) → List ℕ
words_of_rows [] = []
words_of_rows (first ∷ rows) = first ++ words_of_rows rows

-- the answer of a run, from how it ends
abbrev pub answer : ℕ → Ending → Result (List ℕ) RunFault
answer outputs (Err met) = Err met
answer outputs (Ok memory) = Ok (words_of_rows (take outputs memory))

-- the run of a file on d shares, with the shares of its inputs in order and a list of random words
abbrev pub machine_run : ℕ → CFile → List ℕ → List ℕ → Result (List ℕ) RunFault
machine_run d file inputs words =
    answer file.outputs (calls_done d file 0 file.calls (start_memory d file inputs) words)

-- a refused run has met this; want of memory has no cause
abbrev pub IsRunFault : Result (List ℕ) RunFault → RunFault → Type 0
IsRunFault run (fault.IndexOut k) = run ≡ Err (fault.IndexOut k)
IsRunFault run (fault.BadShift k) = run ≡ Err (fault.BadShift k)
IsRunFault run fault.WordsShort = run ≡ Err fault.WordsShort
IsRunFault run (fault.Memory error) = Unit {0}
