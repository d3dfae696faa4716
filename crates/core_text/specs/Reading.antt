-- What a core text says, line by line.
use Rattle.std.specs.Prelude.{◌≡◌, ℕ, suc, ◌+◌, Bool, if◌then◌else◌, List, [], ◌∷◌, Option, None, Some, Result, Ok, Err}
use Rattle.core_text.specs.declared.fault.CoreFault.{CoreFault}
use Rattle.core_text.specs.declared.fault.CoreFault.TheVariants as fault
use Rattle.core_text.specs.Forms.{Equation, width_form, inputs_form, equation_form, is_outputs, outputs_form}
use Rattle.core_text.specs.Ranges.{is_width, is_inputs, is_next, are_outputs, is_within}
use Rattle.text_lines.specs.Lines.{lines_of}
use Rattle.usuba0.specs.declared.circuit.Gate.{Gate}
use Rattle.usuba0.specs.declared.circuit.Reg.{Reg}
use Rattle.usuba0.specs.Circuit.{Circuit}

-- what line k says: a fault where its words have another form, and where what they say is out of range
abbrev pub said_in_range : {X : Type 0} → ℕ → Option X → (X → Bool) → Result X CoreFault
said_in_range k None is_in_range = Err (fault.Syntax k)
said_in_range k (Some said) is_in_range = if is_in_range said then Ok said else Err (fault.OutOfRange k)

-- the line `width`
abbrev pub width_line : ℕ → List (List ℕ) → Result ℕ CoreFault
width_line k words = said_in_range k (width_form words) is_width

-- the line `inputs`
abbrev pub inputs_line : ℕ → List (List ℕ) → Result ℕ CoreFault
inputs_line k words = said_in_range k (inputs_form words) is_inputs

-- the right side of an equation
abbrev pub gate_of : Result Equation CoreFault → Result Gate CoreFault
gate_of (Ok equation) = Ok equation.gate
gate_of (Err wrong) = Err wrong

-- the line of the equation that makes register n, at width w
abbrev pub equation_line : ℕ → ℕ → ℕ → List (List ℕ) → Result Gate CoreFault
equation_line w n k words = gate_of (said_in_range k (equation_form words) (is_next w n))

-- the line `outputs` where there are n registers
abbrev pub outputs_line : ℕ → ℕ → List (List ℕ) → Result (List Reg) CoreFault
outputs_line n k words = said_in_range k (outputs_form words) (are_outputs n)

-- the equations and the outputs of a core
pub record Body : Type 0 where
  pub equations : List Gate
  pub outputs : List Reg

-- an equation and what follows it; the earlier fault is the first
abbrev pub with_equation : Result Gate CoreFault → Result Body CoreFault → Result Body CoreFault
with_equation (Err wrong) later = Err wrong
with_equation (Ok equation) (Err wrong) = Err wrong
with_equation (Ok equation) (Ok body) = Ok (record { equations = equation ∷ body.equations; outputs = body.outputs })

-- the outputs, after which no line is due: line k would be left over
abbrev pub with_outputs : Result (List Reg) CoreFault → ℕ → List (Option (List (List ℕ))) → Result Body CoreFault
with_outputs (Err wrong) k lines = Err wrong
with_outputs (Ok outputs) k [] = Ok (record { equations = []; outputs = outputs })
with_outputs (Ok outputs) k (line ∷ lines) = Err (fault.Syntax k)

-- what the lines from line k on say, where the next equation makes register n: equations, and then the outputs. The end in
-- place of a line is a fault there, and bytes that no LF ends are of no form
abbrev pub body_from : ℕ → ℕ → ℕ → List (Option (List (List ℕ))) → Result Body CoreFault
body_from w n k [] = Err (fault.Syntax k)
body_from w n k (None ∷ lines) = Err (fault.Syntax k)
body_from w n k (Some words ∷ lines) =
    if is_outputs words then with_outputs (outputs_line n k words) (k + 1) lines
    else with_equation (equation_line w n k words) (body_from w (suc n) (k + 1) lines)

-- the circuit of a width, a count of inputs and a body
abbrev pub circuit_with : ℕ → ℕ → Result Body CoreFault → Result Circuit CoreFault
circuit_with w n (Err wrong) = Err wrong
circuit_with w n (Ok body) = Ok (record { width = w; inputs = n; equations = body.equations; outputs = body.outputs })

-- a number and what follows it, or its fault
abbrev pub with_number : Result ℕ CoreFault → (ℕ → Result Circuit CoreFault) → Result Circuit CoreFault
with_number (Err wrong) follows = Err wrong
with_number (Ok number) follows = follows number

-- from line 2 on, at width w
abbrev pub from_inputs : ℕ → List (Option (List (List ℕ))) → Result Circuit CoreFault
from_inputs w [] = Err (fault.Syntax 2)
from_inputs w (None ∷ lines) = Err (fault.Syntax 2)
from_inputs w (Some words ∷ lines) = with_number (inputs_line 2 words) (λ n. circuit_with w n (body_from w n 3 lines))

-- from line 1 on
abbrev pub from_width : List (Option (List (List ℕ))) → Result Circuit CoreFault
from_width [] = Err (fault.Syntax 1)
from_width (None ∷ lines) = Err (fault.Syntax 1)
from_width (Some words ∷ lines) = with_number (width_line 1 words) (λ w. from_inputs w lines)

-- the circuit that bytes spell, whatever its size, or the fault of the first line that has one
abbrev pub circuit_of : List ℕ → Result Circuit CoreFault
circuit_of bytes = from_width (lines_of bytes)

-- a circuit past one of the limits is no core
abbrev pub within_limits : Result Circuit CoreFault → Result Circuit CoreFault
within_limits (Err wrong) = Err wrong
within_limits (Ok core) = if is_within core then Ok core else Err fault.Limit

-- the core that bytes spell, or their fault: that of the first line that has one, and else that the core does not fit
abbrev pub core_of : List ℕ → Result Circuit CoreFault
core_of bytes = within_limits (circuit_of bytes)

-- the answer is the one that is wanted, or memory was wanting
abbrev pub IsOrMemory : {X : Type 0} → Result X CoreFault → Result X CoreFault → Type 0
IsOrMemory (Err (fault.Memory error)) wanted = Unit {0}
IsOrMemory answer wanted = answer ≡ wanted

-- a fault of the bytes: of a line, or that the core does not fit
abbrev pub IsFault : CoreFault → Type 0
IsFault (fault.Memory error) = ⊥
IsFault wrong = Unit {0}

-- a core, or a fault of the bytes
abbrev pub IsCoreOrFault : {X : Type 0} → Result X CoreFault → Type 0
IsCoreOrFault (Ok core) = Unit {0}
IsCoreOrFault (Err wrong) = IsFault wrong
