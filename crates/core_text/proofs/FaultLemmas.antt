-- What is read of bytes is a core or a fault of theirs, and never want of memory.
use Rattle.std.proofs.Common.{ℕ, suc, ◌+◌, Bool, true, false, cond, List, [], ◌∷◌, Option, None, Some, Result, Ok, Err}
use Rattle.core_text.specs.declared.fault.CoreFault.{CoreFault}
use Rattle.core_text.specs.declared.fault.CoreFault.TheVariants as fault
use Rattle.core_text.specs.Forms.{Equation, width_form, inputs_form, equation_form, is_outputs, outputs_form}
use Rattle.core_text.specs.Ranges.{is_width, is_inputs, is_next, are_outputs, is_within}
use Rattle.core_text.specs.Reading.{said_in_range, width_line, inputs_line, gate_of, equation_line, outputs_line, Body, with_equation, with_outputs, body_from, circuit_with, with_number, from_inputs, from_width, circuit_of, within_limits, core_of, IsCoreOrFault}
use Rattle.text_lines.specs.Lines.{lines_of}
use Rattle.usuba0.specs.declared.circuit.Gate.{Gate}
use Rattle.usuba0.specs.declared.circuit.Reg.{Reg}
use Rattle.usuba0.specs.Circuit.{Circuit}

choice_told : {X : Type 0} (test : Bool) (said other : Result X CoreFault) → IsCoreOrFault said → IsCoreOrFault other → IsCoreOrFault (cond test said other)
choice_told true said other first second = first
choice_told false said other first second = second

said_told : {X : Type 0} (k : ℕ) (said : Option X) (is_in_range : X → Bool) → IsCoreOrFault (said_in_range k said is_in_range)
said_told k None is_in_range = tt
said_told k (Some said) is_in_range = choice_told (is_in_range said) (Ok said) (Err (fault.OutOfRange k)) tt tt

gate_told : (said : Result Equation CoreFault) → IsCoreOrFault said → IsCoreOrFault (gate_of said)
gate_told (Ok equation) h = tt
gate_told (Err wrong) h = h

equation_told : (said : Result Gate CoreFault) (later : Result Body CoreFault) → IsCoreOrFault said → IsCoreOrFault later → IsCoreOrFault (with_equation said later)
equation_told (Err wrong) later h g = h
equation_told (Ok gate) (Err wrong) h g = g
equation_told (Ok gate) (Ok body) h g = tt

outputs_told : (said : Result (List Reg) CoreFault) (k : ℕ) (lines : List (Option (List (List ℕ)))) → IsCoreOrFault said → IsCoreOrFault (with_outputs said k lines)
outputs_told (Err wrong) k lines h = h
outputs_told (Ok outputs) k [] h = tt
outputs_told (Ok outputs) k (line ∷ lines) h = tt

body_told : (w n k : ℕ) (lines : List (Option (List (List ℕ)))) → IsCoreOrFault (body_from w n k lines)
body_told w n k [] = tt
body_told w n k (None ∷ lines) = tt
body_told w n k (Some words ∷ lines) =
    choice_told (is_outputs words) (with_outputs (outputs_line n k words) (k + 1) lines) (with_equation (equation_line w n k words) (body_from w (suc n) (k + 1) lines))
    (outputs_told (outputs_line n k words) (k + 1) lines (said_told k (outputs_form words) (are_outputs n)))
    (equation_told (equation_line w n k words) (body_from w (suc n) (k + 1) lines)
    (gate_told (said_in_range k (equation_form words) (is_next w n)) (said_told k (equation_form words) (is_next w n)))
    (body_told w (suc n) (k + 1) lines))

circuit_told : (w n : ℕ) (said : Result Body CoreFault) → IsCoreOrFault said → IsCoreOrFault (circuit_with w n said)
circuit_told w n (Err wrong) h = h
circuit_told w n (Ok body) h = tt

number_told : (said : Result ℕ CoreFault) (follows : ℕ → Result Circuit CoreFault) → IsCoreOrFault said → ((n : ℕ) → IsCoreOrFault (follows n)) → IsCoreOrFault (with_number said follows)
number_told (Err wrong) follows h g = h
number_told (Ok n) follows h g = g n

inputs_told : (w : ℕ) (lines : List (Option (List (List ℕ)))) → IsCoreOrFault (from_inputs w lines)
inputs_told w [] = tt
inputs_told w (None ∷ lines) = tt
inputs_told w (Some words ∷ lines) =
    number_told (inputs_line 2 words) (λ n. circuit_with w n (body_from w n 3 lines)) (said_told 2 (inputs_form words) is_inputs)
    (λ n. circuit_told w n (body_from w n 3 lines) (body_told w n 3 lines))

width_told : (lines : List (Option (List (List ℕ)))) → IsCoreOrFault (from_width lines)
width_told [] = tt
width_told (None ∷ lines) = tt
width_told (Some words ∷ lines) =
    number_told (width_line 1 words) (λ w. from_inputs w lines) (said_told 1 (width_form words) is_width) (λ w. inputs_told w lines)

limits_told : (said : Result Circuit CoreFault) → IsCoreOrFault said → IsCoreOrFault (within_limits said)
limits_told (Err wrong) h = h
limits_told (Ok core) h = choice_told (is_within core) (Ok core) (Err fault.Limit) tt tt

-- bytes are read as a core or have a fault
pub all_told : (bytes : List ℕ) → IsCoreOrFault (core_of bytes)
all_told bytes = limits_told (circuit_of bytes) (width_told (lines_of bytes))
