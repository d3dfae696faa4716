-- What the functions answer of which each reads a part of the text. A register of 2^32 or more is kept as 2^32 - 1: a core with so many
-- registers is past its limits.
use Rattle.std.specs.Prelude.{◌≡◌, ℕ, ◌+◌, ◌-◌, ◌^◌, nat_lt, if◌then◌else◌, true, false, List, ◌∷◌, ◌++◌, get_or, length, map, Option, Some, Result, Ok, Err}
use Rattle.core_text.specs.declared.fault.CoreFault.{CoreFault}
use Rattle.core_text.specs.declared.fault.CoreFault.TheVariants as fault
use Rattle.core_text.specs.Forms.{is_outputs}
use Rattle.core_text.specs.Reading.{Body, body_from, equation_line}
use Rattle.text_lines.specs.Lines.{LinesLeft}
use Rattle.usuba0.specs.declared.circuit.Gate.{Gate}
use Rattle.usuba0.specs.declared.circuit.Gate.TheVariants as gate
use Rattle.usuba0.specs.declared.circuit.Reg.{Reg}

-- a register as it is kept
abbrev pub kept : Reg → Reg
kept a = if nat_lt a.0 (2 ^ 32) then a else record { 0 = 2 ^ 32 - 1 }

-- an equation as it is kept
abbrev pub kept_gate : Gate → Gate
kept_gate (gate.Const c) = gate.Const c
kept_gate (gate.Xor a b) = gate.Xor (kept a) (kept b)
kept_gate (gate.Not a) = gate.Not (kept a)
kept_gate (gate.Mask c a) = gate.Mask c (kept a)
kept_gate (gate.And a b) = gate.And (kept a) (kept b)
kept_gate (gate.Shl k a) = gate.Shl k (kept a)
kept_gate (gate.Shr k a) = gate.Shr k (kept a)
kept_gate (gate.Rotl k a) = gate.Rotl k (kept a)
kept_gate (gate.Refresh a) = gate.Refresh (kept a)

-- a body as it is kept
abbrev pub kept_body : Body → Body
kept_body body = record { equations = map kept_gate body.equations; outputs = map kept body.outputs }

-- an answer of which what it says is kept
abbrev pub answer_kept : {X : Type 0} → (X → X) → Result X CoreFault → Result X CoreFault
answer_kept keep (Ok said) = Ok (keep said)
answer_kept keep (Err wrong) = Err wrong

-- equations and what follows them
abbrev pub after_equations : List Gate → Result Body CoreFault → Result Body CoreFault
after_equations equations (Err wrong) = Err wrong
after_equations equations (Ok body) = Ok (record { equations = equations ++ body.equations; outputs = body.outputs })

-- what the lines that are left say as a body
abbrev pub rest_of : ℕ → ℕ → LinesLeft → Result Body CoreFault
rest_of w n left = body_from w n left.number left.lines

-- the first of the lines is the equation of register n, kept as this gate, and the lines after it are left
abbrev pub TakesEquation : ℕ → ℕ → Gate → LinesLeft → LinesLeft → Type 0
TakesEquation w n said before after =
    (words : List (List ℕ)) × (before.lines ≡ Some words ∷ after.lines) × (after.number ≡ before.number + 1) × (is_outputs words ≡ false)
    × (Ok said ≡ answer_kept kept_gate (equation_line w n before.number words))

-- equations that make registers n to m - 1 were taken from the lines, and added to the others
abbrev pub TakesEquations : ℕ → ℕ → ℕ → List Gate → List Gate → LinesLeft → LinesLeft → Type 0
TakesEquations w n m others all before after =
    after_equations others (answer_kept kept_body (rest_of w n before)) ≡ after_equations all (answer_kept kept_body (rest_of w m after))

-- the first of the lines is that of the outputs
abbrev pub AreOutputsDue : LinesLeft → Type 0
AreOutputsDue left =
    (words : List (List ℕ)) × (others : List (Option (List (List ℕ)))) × (left.lines ≡ Some words ∷ others) × (is_outputs words ≡ true)

-- the last of the bytes is LF
abbrev pub EndsLine : List ℕ → Type 0
EndsLine bytes = get_or bytes (length bytes - 1) 0 ≡ 10

-- the answer holds what is wanted, or memory was wanting
abbrev pub IsAnswer : {X Y : Type 0} → (X → Y) → Result X CoreFault → Result Y CoreFault → Type 0
IsAnswer shown (Err (fault.Memory error)) wanted = Unit {0}
IsAnswer shown (Err wrong) wanted = wanted ≡ Err wrong
IsAnswer shown (Ok said) wanted = wanted ≡ Ok (shown said)

-- memory was wanting
abbrev pub IsMemory : CoreFault → Type 0
IsMemory (fault.Memory error) = Unit {0}
IsMemory wrong = ⊥
